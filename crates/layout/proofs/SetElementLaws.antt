-- Laws of `set_elements`: the elements are those of the list, all else is as it was, and it is `set_element` at each index in turn.
use mathlib.Core.Path.{◌≡◌, refl, ap, ap₂, sym, ◌∙◌}
use mathlib.Core.List.{List, [], ◌∷◌, ◌++◌, map, zip_with, foldl}
use Prim.Native.Nat.{ℕ, zero, suc, ◌+◌, ◌-◌, ◌<◌, ◌≤◌}
use native.Mathlib.Nat.{add-zero, add-suc, suc-add}
use native.Mathlib.Omega.{arith}
use borrow.Author.Tests.{le-leb, lt-leb, eq-eqb, ne_eqb}
use lib.ListN.{length, take, drop, get_or, set, length-set, length-drop, take-append-drop}
use lib.Seq.{take-take, get_or-take, drop-cons, drop-drop, take_all, length-take-le, drop-set-lt, sets, sets-eq}
use Rattle.prelude.specs.Lists.{replace_first, enumerate_from}
use Rattle.prelude.proofs.ListLaws.{length_zip_with, take_zip_with, take_replace_first, drop_take}
use Rattle.geometry.specs.declared.Rect.{Rect}
use Rattle.layout.specs.declared.Control.{Control}
use Rattle.layout.specs.declared.Label.{Label}
use Rattle.layout.specs.declared.Layout.{Layout}
use Rattle.layout.specs.Layout.{any_rect, any_control, with_bounds, with_dpad, with_controls, with_pause, with_playback, with_speed, with_mute, with_sticks, element_count_of, set_element_of, bounds_of, elements_of}
use Rattle.layout.specs.Elements.{set_elements_of}
use Rattle.layout.specs.Labels.{labels_of}

-- the elements from n + j on, the first of them apart
drop_next : {A : Type 0} (l : List A) (n j : ℕ) (d : A) → n + j < length l → drop (n + j) l ≡ get_or l (n + j) d ∷ drop (n + suc j) l
drop_next l n j d h = rw add-suc (drop-cons l (n + j) d h)

-- new rectangles for controls
new_bounds : (n : ℕ) (cs : List Control) (rs : List Rect) → n ≤ length cs → n ≤ length rs → map (λ c. c.bounds) (take n (zip_with with_bounds cs rs)) ≡ take n rs
unfolding zip_with
new_bounds zero cs rs h k = refl
new_bounds (suc n) [] rs h k = absurd (let z : ⊥ = omega arith in z)
new_bounds (suc n) (c ∷ cs) [] h k = absurd (let z : ⊥ = omega arith in z)
new_bounds (suc n) (c ∷ cs) (r ∷ rs) h k = ap (λ (t : List Rect). r ∷ t) (new_bounds n cs rs (omega arith) (omega arith))

old_labels : (n : ℕ) (cs : List Control) (rs : List Rect) → n ≤ length cs → n ≤ length rs → map (λ c. c.label) (take n (zip_with with_bounds cs rs)) ≡ map (λ c. c.label) (take n cs)
unfolding zip_with
old_labels zero cs rs h k = refl
old_labels (suc n) [] rs h k = absurd (let z : ⊥ = omega arith in z)
old_labels (suc n) (c ∷ cs) [] h k = absurd (let z : ⊥ = omega arith in z)
old_labels (suc n) (c ∷ cs) (r ∷ rs) h k = ap (λ (t : List Label). c.label ∷ t) (old_labels n cs rs (omega arith) (omega arith))

-- a list in the parts that a layout's fields take, with n controls
in_parts : (n : ℕ) (rs : List Rect) → n + 5 ≤ length rs
    → rs ≡ get_or rs 0 any_rect ∷ (take n (drop 1 rs) ++ (get_or rs (n + 1) any_rect ∷ get_or rs (n + 2) any_rect ∷ get_or rs (n + 3) any_rect ∷ get_or rs (n + 4) any_rect ∷ drop (n + 5) rs))
in_parts n rs h =
    let e : 1 + n ≡ n + 1 = omega arith in
    let keys : drop (n + 1) rs ≡ get_or rs (n + 1) any_rect ∷ get_or rs (n + 2) any_rect ∷ get_or rs (n + 3) any_rect ∷ get_or rs (n + 4) any_rect ∷ drop (n + 5) rs
    = rw (drop_next rs n 1 any_rect (omega arith), drop_next rs n 2 any_rect (omega arith), drop_next rs n 3 any_rect (omega arith), drop_next rs n 4 any_rect (omega arith)) in
    drop-cons rs 0 any_rect (omega arith)
    ∙ ap (λ (t : List Rect). get_or rs 0 any_rect ∷ t) (sym (take-append-drop n (drop 1 rs)) ∙ ap (λ (t : List Rect). take n (drop 1 rs) ++ t) (drop-drop n 1 rs ∙ ap (λ (i : ℕ). drop i rs) e ∙ keys))

-- what a change of a layout's elements leaves as it was
pub record Kept (l q : Layout) : Type 0 where
  pub game : q.game ≡ l.game
  pub count : q.count ≡ l.count
  pub stickcount : q.stickcount ≡ l.stickcount
  pub labels : labels_of q ≡ labels_of l

module _ (l : Layout) (rs : List Rect) (cs : l.count ≤ length l.controls) (k : length rs ≡ element_count_of l) where
  new_controls : take l.count (set_elements_of l rs).controls ≡ take l.count (zip_with with_bounds l.controls (drop 1 rs))
  unfolding set_elements_of
  new_controls =
      let n = length-drop 1 rs in
      take_replace_first l.count (zip_with with_bounds l.controls (drop 1 rs)) l.controls (length_zip_with with_bounds l.count l.controls (drop 1 rs) cs (omega arith))

  pub set_elements_kept : Kept l (set_elements_of l rs)
  unfolding set_elements_of
  set_elements_kept =
      let n = length-drop 1 rs in
      record {
        game = refl;
        count = refl;
        stickcount = refl;
        labels = ap (map (λ (c : Control). c.label)) new_controls ∙ old_labels l.count l.controls (drop 1 rs) cs (omega arith);
      }

  -- for the reader: no proof cites this law
  pub set_elements_list : elements_of (set_elements_of l rs) ≡ rs
  unfolding set_elements_of elements_of
  set_elements_list =
      let n = l.count in
      let a = length-drop 1 rs in
      let b = length-drop (n + 5) rs in
      let bounds : bounds_of (set_elements_of l rs) ≡ take n (drop 1 rs) = ap (map (λ (c : Control). c.bounds)) new_controls ∙ new_bounds n l.controls (drop 1 rs) cs (omega arith) in
      let sticks : take l.stickcount (set_elements_of l rs).sticks ≡ drop (n + 5) rs
      = take_replace_first l.stickcount (drop (n + 5) rs) l.sticks (omega arith) ∙ take_all l.stickcount (drop (n + 5) rs) (omega arith) in
      ap₂ (λ (x y : List Rect). get_or rs 0 any_rect ∷ (x ++ (get_or rs (n + 1) any_rect ∷ get_or rs (n + 2) any_rect ∷ get_or rs (n + 3) any_rect ∷ get_or rs (n + 4) any_rect ∷ y))) bounds sticks
      ∙ sym (in_parts n rs (omega arith))

-- rectangles past the last element's do not matter
pub set_elements_front : (l : Layout) (rs : List Rect) (k : ℕ) → k ≡ element_count_of l → set_elements_of l (take k rs) ≡ set_elements_of l rs
unfolding set_elements_of
set_elements_front l rs k e =
    let n = l.count in
    let m = l.stickcount in
    let a : k ≡ 1 + (n + 4 + m) = omega arith in
    let b : k ≡ (n + 5) + m = omega arith in
    let controls : take n (zip_with with_bounds l.controls (drop 1 (take k rs))) ≡ take n (zip_with with_bounds l.controls (drop 1 rs))
    = ap (λ (t : List Rect). take n (zip_with with_bounds l.controls t)) (ap (λ (i : ℕ). drop 1 (take i rs)) a ∙ drop_take 1 (n + 4 + m) rs)
    ∙ rw (take_zip_with, take_zip_with, take-take n (n + 4 + m) (drop 1 rs) (omega arith)) in
    let sticks : take m (drop (n + 5) (take k rs)) ≡ take m (drop (n + 5) rs)
    = ap (take m) (ap (λ (i : ℕ). drop (n + 5) (take i rs)) b ∙ drop_take (n + 5) m rs) ∙ take-take m m (drop (n + 5) rs) (omega arith) in
    rw (controls, sticks, get_or-take k rs 0 any_rect (omega arith))
    (rw (get_or-take k rs (n + 1) any_rect (omega arith), get_or-take k rs (n + 2) any_rect (omega arith), get_or-take k rs (n + 3) any_rect (omega arith), get_or-take k rs (n + 4) any_rect (omega arith)))

-- ---- the elements set one after the other
-- `set_element` with each rectangle of a list, the first at index i
abbrev pub in_turn : ℕ → List Rect → Layout → Layout
in_turn i rs l = foldl (λ (m : Layout) (e : ℕ × Rect). set_element_of m e.0 e.1) l (enumerate_from i rs)

turn_append : (xs ys : List Rect) (i : ℕ) (l : Layout) → in_turn i (xs ++ ys) l ≡ in_turn (i + length xs) ys (in_turn i xs l)
turn_append [] ys i l = rw add-zero
turn_append (x ∷ xs) ys i l = rw (add-suc, ← suc-add) (turn_append xs ys (suc i) (set_element_of l i x))

-- `set_element` at each kind of index
module _ (l : Layout) (r : Rect) (i : ℕ) where
  pub set_dpad : i ≡ 0 → set_element_of l i r ≡ with_dpad l r
  unfolding set_element_of
  set_dpad e = rw (eq-eqb i 0 e)

  pub set_control : (j : ℕ) → i ≡ suc j → j < l.count → set_element_of l i r ≡ with_controls l (set l.controls j (with_bounds (get_or l.controls j any_control) r))
  unfolding set_element_of
  set_control j e h = let q : i - 1 ≡ j = omega arith in rw (ne_eqb i 0 (omega arith), le-leb i l.count (omega arith), q)

  pub set_pause : i ≡ l.count + 1 → set_element_of l i r ≡ with_pause l r
  unfolding set_element_of
  set_pause e = rw (ne_eqb i 0 (omega arith), lt-leb i l.count (omega arith), eq-eqb i (l.count + 1) e)

  pub set_playback : i ≡ l.count + 2 → set_element_of l i r ≡ with_playback l r
  unfolding set_element_of
  set_playback e = rw (ne_eqb i 0 (omega arith), lt-leb i l.count (omega arith), ne_eqb i (l.count + 1) (omega arith), eq-eqb i (l.count + 2) e)

  pub set_speed : i ≡ l.count + 3 → set_element_of l i r ≡ with_speed l r
  unfolding set_element_of
  set_speed e =
      rw (ne_eqb i 0 (omega arith), lt-leb i l.count (omega arith), ne_eqb i (l.count + 1) (omega arith), ne_eqb i (l.count + 2) (omega arith))
      (rw (eq-eqb i (l.count + 3) e))

  pub set_mute : i ≡ l.count + 4 → set_element_of l i r ≡ with_mute l r
  unfolding set_element_of
  set_mute e =
      rw (ne_eqb i 0 (omega arith), lt-leb i l.count (omega arith), ne_eqb i (l.count + 1) (omega arith), ne_eqb i (l.count + 2) (omega arith))
      (rw (ne_eqb i (l.count + 3) (omega arith), eq-eqb i (l.count + 4) e))

  pub set_stick : (j : ℕ) → i ≡ l.count + 5 + j → set_element_of l i r ≡ with_sticks l (set l.sticks j r)
  unfolding set_element_of
  set_stick j e =
      let q : i - l.count - 5 ≡ j = omega arith in
      rw (ne_eqb i 0 (omega arith), lt-leb i l.count (omega arith), ne_eqb i (l.count + 1) (omega arith), ne_eqb i (l.count + 2) (omega arith))
      (rw (ne_eqb i (l.count + 3) (omega arith), ne_eqb i (l.count + 4) (omega arith), q))

no_zip : (cs : List Control) → zip_with with_bounds cs [] ≡ []
unfolding zip_with
no_zip [] = refl
no_zip (c ∷ cs) = refl

zip_take : (n : ℕ) (cs : List Control) (rs : List Rect) → zip_with with_bounds cs (take n rs) ≡ take n (zip_with with_bounds cs rs)
unfolding zip_with
zip_take zero cs rs = no_zip cs
zip_take (suc n) [] rs = refl
zip_take (suc n) (c ∷ cs) [] = refl
zip_take (suc n) (c ∷ cs) (r ∷ rs) = ap (λ (t : List Control). with_bounds c r ∷ t) (zip_take n cs rs)

control_turns : (rs : List Rect) (j : ℕ) (l : Layout) → j + length rs ≤ l.count → l.count ≤ length l.controls
    → in_turn (suc j) rs l ≡ with_controls l (sets l.controls j (zip_with with_bounds (drop j l.controls) rs))
unfolding zip_with
control_turns [] j l h c = ap (λ (t : List Control). with_controls l (sets l.controls j t)) (sym (no_zip (drop j l.controls)))
control_turns (r ∷ rs) j l h c =
    let old = l.controls in
    let v = with_bounds (get_or old j any_control) r in
    let k = length-set old j v in
    ap (in_turn (suc (suc j)) rs) (set_control l r (suc j) j refl (omega arith))
    ∙ control_turns rs (suc j) (with_controls l (set old j v)) (omega arith) (omega arith)
    ∙ ap (λ (t : List Control). with_controls l (sets (set old j v) (suc j) (zip_with with_bounds t rs))) (drop-set-lt (suc j) old j v (omega arith))
    ∙ ap (λ (t : List Control). with_controls l (sets old j (zip_with with_bounds t (r ∷ rs)))) (sym (drop-cons old j any_control (omega arith)))

stick_turns : (rs : List Rect) (i j : ℕ) (l : Layout) → i ≡ l.count + 5 + j → in_turn i rs l ≡ with_sticks l (sets l.sticks j rs)
stick_turns [] i j l e = refl
stick_turns (r ∷ rs) i j l e = ap (in_turn (suc i) rs) (set_stick l r i j e) ∙ stick_turns rs (suc i) (suc j) (with_sticks l (set l.sticks j r)) (omega arith)

key_turns : (p b s m : Rect) (ss : List Rect) (i : ℕ) (l : Layout) → i ≡ l.count + 1
    → in_turn i (p ∷ b ∷ s ∷ m ∷ ss) l ≡ with_sticks (with_mute (with_speed (with_playback (with_pause l p) b) s) m) (sets l.sticks 0 ss)
key_turns p b s m ss i l e =
    ap (in_turn (suc i) (b ∷ s ∷ m ∷ ss)) (set_pause l p i e)
    ∙ ap (in_turn (suc (suc i)) (s ∷ m ∷ ss)) (set_playback (with_pause l p) b (suc i) (omega arith))
    ∙ ap (in_turn (suc (suc (suc i))) (m ∷ ss)) (set_speed (with_playback (with_pause l p) b) s (suc (suc i)) (omega arith))
    ∙ ap (in_turn (suc (suc (suc (suc i)))) ss) (set_mute (with_speed (with_playback (with_pause l p) b) s) m (suc (suc (suc i))) (omega arith))
    ∙ stick_turns ss (suc (suc (suc (suc i)))) 0 (with_mute (with_speed (with_playback (with_pause l p) b) s) m) (omega arith)

-- stores from the front on
front_sets : {A : Type 0} (n : ℕ) (vs l : List A) → length vs ≡ n → n ≤ length l → sets l 0 vs ≡ vs ++ drop n l
front_sets n vs l e h = let q : 0 + length vs ≡ n = omega arith in sets-eq vs l 0 (omega arith) ∙ rw q

-- for the reader: no proof cites this law
pub set_elements_in_turn : (l : Layout) (rs : List Rect) → l.count ≤ length l.controls → l.stickcount ≤ length l.sticks → length rs ≡ element_count_of l → in_turn 0 rs l ≡ set_elements_of l rs
unfolding set_elements_of set_element_of
set_elements_in_turn l rs cs ss k =
    let n = l.count in
    let d = get_or rs 0 any_rect in
    let p = get_or rs (n + 1) any_rect in
    let b = get_or rs (n + 2) any_rect in
    let s = get_or rs (n + 3) any_rect in
    let m = get_or rs (n + 4) any_rect in
    let new = zip_with with_bounds l.controls (drop 1 rs) in
    let rest = length-drop 1 rs in
    let last = length-drop (n + 5) rs in
    let bounds : length (take n (drop 1 rs)) ≡ n = length-take-le n (drop 1 rs) (omega arith) in
    let most : n ≤ length new = length_zip_with with_bounds n l.controls (drop 1 rs) cs (omega arith) in
    let controls : sets l.controls 0 (zip_with with_bounds l.controls (take n (drop 1 rs))) ≡ replace_first n new l.controls
    = ap (sets l.controls 0) (zip_take n l.controls (drop 1 rs)) ∙ front_sets n (take n new) l.controls (length-take-le n new most) cs in
    let sticks : sets l.sticks 0 (drop (n + 5) rs) ≡ replace_first l.stickcount (drop (n + 5) rs) l.sticks
    = front_sets l.stickcount (drop (n + 5) rs) l.sticks (omega arith) ss ∙ rw (take_all l.stickcount (drop (n + 5) rs) (omega arith)) in
    ap (λ (t : List Rect). in_turn 0 t l) (in_parts n rs (omega arith))
    ∙ turn_append (take n (drop 1 rs)) (p ∷ b ∷ s ∷ m ∷ drop (n + 5) rs) 1 (with_dpad l d)
    ∙ ap (in_turn (1 + length (take n (drop 1 rs))) (p ∷ b ∷ s ∷ m ∷ drop (n + 5) rs)) (control_turns (take n (drop 1 rs)) 0 (with_dpad l d) (omega arith) cs)
    ∙ key_turns p b s m (drop (n + 5) rs) (1 + length (take n (drop 1 rs))) _ (omega arith)
    ∙ ap₂ (λ (x : List Control) (y : List Rect). with_sticks (with_mute (with_speed (with_playback (with_pause (with_controls (with_dpad l d) x) p) b) s) m) y) controls sticks
