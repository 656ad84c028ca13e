-- Laws of a layout's elements: the list of them is `element` at each index, the controller's are those but the toolbar's.
use mathlib.Core.Path.{◌≡◌, refl, ap, ap₂, sym, ◌∙◌}
use mathlib.Core.Bool.{Bool, true, false, cond}
use mathlib.Core.List.{List, ◌∷◌, ◌++◌, map, map-append}
use Prim.Native.Nat.{ℕ, zero, suc, ◌+◌, ◌-◌, ◌<◌, ◌≤◌}
use native.Mathlib.Omega.{arith}
use borrow.Author.Tests.{le-leb, lt-leb, eq-eqb, ne_eqb, eqb-true, eqb-false}
use lib.Dec.{leb, eqb, leb→le, nleb→lt}
use lib.ListN.{length, take, drop, get_or, length-append, length-map, get_or-append, get_or-map}
use lib.Seq.{drop-cons, get_or-append-add, get_or-take, length-take-le, take_at, take_all, drop-append-add}
use Rattle.prelude.proofs.Booleans.{by_test}
use Rattle.prelude.specs.Lists.{count_from, range}
use Rattle.geometry.specs.declared.Rect.{Rect}
use Rattle.layout.specs.declared.Control.{Control}
use Rattle.layout.specs.declared.Layout.{Layout}
use Rattle.layout.specs.Layout.{any_rect, any_control, Few, control_list, stick_list, element_count_of, element_of, bounds_of, elements_of}
use Rattle.layout.specs.Elements.{controller_elements_of}

-- ---- `element` at each kind of index
module _ (l : Layout) (i : ℕ) where
  pub element_dpad : i ≡ 0 → element_of l i ≡ l.dpad
  unfolding element_of
  element_dpad e = rw (eq-eqb i 0 e)

  pub element_control : (k : ℕ) → i ≡ suc k → k < l.count → element_of l i ≡ (get_or l.controls k any_control).bounds
  unfolding element_of
  element_control k e h = let q : i - 1 ≡ k = omega arith in rw (ne_eqb i 0 (omega arith), le-leb i l.count (omega arith), q)

  pub element_pause : i ≡ l.count + 1 → element_of l i ≡ l.pause
  unfolding element_of
  element_pause e = rw (ne_eqb i 0 (omega arith), lt-leb i l.count (omega arith), eq-eqb i (l.count + 1) e)

  pub element_playback : i ≡ l.count + 2 → element_of l i ≡ l.playback
  unfolding element_of
  element_playback e = rw (ne_eqb i 0 (omega arith), lt-leb i l.count (omega arith), ne_eqb i (l.count + 1) (omega arith), eq-eqb i (l.count + 2) e)

  pub element_speed : i ≡ l.count + 3 → element_of l i ≡ l.speed
  unfolding element_of
  element_speed e =
      rw (ne_eqb i 0 (omega arith), lt-leb i l.count (omega arith), ne_eqb i (l.count + 1) (omega arith), ne_eqb i (l.count + 2) (omega arith))
      (rw (eq-eqb i (l.count + 3) e))

  pub element_mute : i ≡ l.count + 4 → element_of l i ≡ l.mute
  unfolding element_of
  element_mute e =
      rw (ne_eqb i 0 (omega arith), lt-leb i l.count (omega arith), ne_eqb i (l.count + 1) (omega arith), ne_eqb i (l.count + 2) (omega arith))
      (rw (ne_eqb i (l.count + 3) (omega arith), eq-eqb i (l.count + 4) e))

  pub element_stick : (k : ℕ) → i ≡ l.count + 5 + k → element_of l i ≡ get_or l.sticks k any_rect
  unfolding element_of
  element_stick k e =
      let q : i - l.count - 5 ≡ k = omega arith in
      rw (ne_eqb i 0 (omega arith), lt-leb i l.count (omega arith), ne_eqb i (l.count + 1) (omega arith), ne_eqb i (l.count + 2) (omega arith))
      (rw (ne_eqb i (l.count + 3) (omega arith), ne_eqb i (l.count + 4) (omega arith), q))

-- which stick an index past the toolbar's names, of two at most
pub stick_index : (n i : ℕ) → n + 5 ≤ i → i ≡ n + 5 + (i - n - 5)
stick_index n i h = omega arith

pub stick_below : (l : Layout) (i : ℕ) → Few l → i < element_count_of l → i - l.count - 5 < 2
stick_below l i few h = omega arith

-- a claim about a branch, by its two sides
module _ {A : Type 0} (i k : ℕ) {x y z : A} where
  by_eqb : k ≤ i → (i ≡ k → z ≡ x) → (k < i → z ≡ y) → z ≡ cond (eqb i k) x y
  by_eqb h p q = go (eqb i k) refl
    where
      go : (b : Bool) → eqb i k ≡ b → z ≡ cond b x y
      go true e = p (eqb-true i k e)
      go false e = let other : i ≡ k → ⊥ = eqb-false i k e in q (omega arith)

  by_leb : (i ≤ k → z ≡ x) → (k < i → z ≡ y) → z ≡ cond (leb i k) x y
  by_leb p q = by_test (λ w. z ≡ w) (leb i k) (λ t. p (leb→le i k t)) (λ t. q (nleb→lt i k t))

-- the elements after the controls
abbrev last_of : Layout → List Rect
last_of l = l.pause ∷ l.playback ∷ l.speed ∷ l.mute ∷ stick_list l

-- the counts are within the arrays
module _ (l : Layout) (cs : l.count ≤ length l.controls) (ss : l.stickcount ≤ length l.sticks) where
  pub length_bounds : length (bounds_of l) ≡ l.count
  length_bounds = length-map (control_list l) (λ c. c.bounds) ∙ length-take-le l.count l.controls cs

  pub length_elements : length (elements_of l) ≡ element_count_of l
  unfolding elements_of
  length_elements =
      let a = length_bounds in
      let b : length (stick_list l) ≡ l.stickcount = length-take-le l.stickcount l.sticks ss in
      rw length-append (omega arith)

  control_at_lem : (j : ℕ) → j < l.count → get_or (elements_of l) (suc j) any_rect ≡ (get_or l.controls j any_control).bounds
  unfolding elements_of
  control_at_lem j h =
      let a = length_bounds in
      get_or-append (bounds_of l) (last_of l) any_rect j (omega arith)
      ∙ get_or-map (λ c. c.bounds) (control_list l) j any_control
      ∙ ap (λ (c : Control). c.bounds) (get_or-take l.count l.controls j any_control h)

  last_at : (i k : ℕ) → i ≡ l.count + 1 + k → get_or (elements_of l) i any_rect ≡ get_or (last_of l) k any_rect
  unfolding elements_of
  last_at i k e =
      let a = length_bounds in
      let p : i ≡ suc (length (bounds_of l) + k) = omega arith in
      ap (λ (j : ℕ). get_or (elements_of l) j any_rect) p ∙ get_or-append-add (bounds_of l) (last_of l) k any_rect

  element_at : (i : ℕ) → i < element_count_of l → get_or (elements_of l) i any_rect ≡ element_of l i
  unfolding element_of elements_of
  element_at i h =
      let n = l.count in
      by_eqb i 0 (omega arith) (λ p. ap (λ (j : ℕ). get_or (elements_of l) j any_rect) p)
      (λ a. by_leb i n (λ p. let e : i ≡ suc (i - 1) = omega arith in ap (λ (j : ℕ). get_or (elements_of l) j any_rect) e ∙ control_at_lem (i - 1) (omega arith))
      (λ b. by_eqb i (n + 1) (omega arith) (λ p. last_at i 0 (omega arith))
      (λ c. by_eqb i (n + 2) (omega arith) (λ p. last_at i 1 (omega arith))
      (λ d. by_eqb i (n + 3) (omega arith) (λ p. last_at i 2 (omega arith))
      (λ e. by_eqb i (n + 4) (omega arith) (λ p. last_at i 3 (omega arith))
      (λ f. last_at i (suc (suc (suc (suc (i - n - 5))))) (omega arith) ∙ get_or-take l.stickcount l.sticks (i - n - 5) any_rect (omega arith)))))))

  -- `element` at each of k indices from a on
  elements_part : (a k : ℕ) → a + k ≤ element_count_of l → map (element_of l) (count_from a k) ≡ take k (drop a (elements_of l))
  elements_part a zero h = refl
  elements_part a (suc k) h =
      let n = length_elements in
      rw (drop-cons (elements_of l) a any_rect (omega arith)) (ap₂ (λ (r : Rect) (t : List Rect). r ∷ t) (sym (element_at a (omega arith))) (elements_part (suc a) k (omega arith)))

  -- for the reader: no proof cites this law
  pub elements_by_index : map (element_of l) (range 0 (element_count_of l)) ≡ elements_of l
  elements_by_index =
      let n = length_elements in
      let a : element_count_of l - 0 ≡ element_count_of l = omega arith in
      rw a (elements_part 0 (element_count_of l) (omega arith) ∙ take_all (element_count_of l) (elements_of l) (omega arith))

  pub first_elements : take (l.count + 1) (elements_of l) ≡ l.dpad ∷ bounds_of l
  unfolding elements_of
  first_elements = let n = length_bounds in take_at (l.dpad ∷ bounds_of l) (last_of l) (l.count + 1) (omega arith)

  -- the d-pad, the controls, the sticks
  pub controller_elements_lem : map (element_of l) (controller_elements_of l) ≡ l.dpad ∷ (bounds_of l ++ stick_list l)
  unfolding controller_elements_of elements_of
  controller_elements_lem =
      let n = length_bounds in
      let s : length (stick_list l) ≡ l.stickcount = length-take-le l.stickcount l.sticks ss in
      let a : l.count + 1 - 0 ≡ l.count + 1 = omega arith in
      let b : element_count_of l - (l.count + 5) ≡ l.stickcount = omega arith in
      let c : l.count + 5 ≡ length (l.dpad ∷ bounds_of l) + 4 = omega arith in
      rw (map-append, a, b, elements_part 0 (l.count + 1) (omega arith), elements_part (l.count + 5) l.stickcount (omega arith))
      (ap₂ (λ (x y : List Rect). x ++ y)
      first_elements
      (ap (λ (k : ℕ). take l.stickcount (drop k (elements_of l))) c
      ∙ ap (take l.stickcount) (drop-append-add (l.dpad ∷ bounds_of l) (last_of l) 4)
      ∙ take_all l.stickcount (stick_list l) (omega arith)))
