-- Layouts in range: their elements; arranged ones are bounded, scaled down or not, and what a change keeps: another d-pad, other controls or sticks, the inputs of a psp, a rectangle for each element, a change of every element.
use mathlib.Core.Path.{◌≡◌, sym, ap, ◌∙◌, subst}
use mathlib.Core.List.{List, [], ◌∷◌, ◌++◌, map, map-append, zip_with}
use Prim.Native.Nat.{ℕ, zero, suc, ◌+◌, ◌≤◌}
use native.Mathlib.Omega.{arith}
use lib.ListN.{length, take, drop, get_or, length-map}
use lib.Seq.{get_or-append-add, drop-append-add}
use Rattle.prelude.specs.Each.{Each, ◌&◌}
use Rattle.prelude.proofs.EachLaws.{each_take, each_drop, each_at, each_append, each_map, each_imp, each_replaced, each_compact}
use Rattle.geometry.specs.declared.Rect.{Rect}
use Rattle.layout.specs.declared.Control.{Control}
use Rattle.layout.specs.declared.Layout.{Layout}
use Rattle.layout.specs.Layout.{any_rect, with_bounds, with_dpad, with_controls, with_sticks, stick_list, bounds_of, elements_of, control_list}
use Rattle.layout.specs.Elements.{set_elements_of}
use Rattle.layout.proofs.ElementLaws.{length_bounds}
use Rattle.layout.specs.Psp.{on_psp, psp_inputs_of}
use Rattle.numerics.specs.Rects.{OnScreen, Key, margin, shrunk_margin}
use Rattle.numerics.proofs.Ranges.{placed_element}
use Rattle.numerics.proofs.Shrunk.{placed_shrunk}
use Rattle.layout_ranges.specs.Bounded.{Every, Bounded, Arranged, Shrunk}

each_bounds : (C : Rect → Type 0) (cs : List Control) (rs : List Rect) → Each C rs → Each (λ c. C c.bounds) (zip_with with_bounds cs rs)
unfolding zip_with
each_bounds C [] rs e = tt
each_bounds C (c ∷ cs) [] e = tt
each_bounds C (c ∷ cs) (r ∷ rs) e = (e.0, each_bounds C cs rs e.1)

-- ---- layouts
pub every_imp : {C D C' D' : Rect → Type 0} {l : Layout} → ((r : Rect) → C r → C' r) → ((r : Rect) → D r → D' r) → Every C D l → Every C' D' l
every_imp {C} {C' = C'} {l = l} c d L =
    record {
      dpad = c l.dpad L.dpad;
      controls = each_imp (λ o. C o.bounds) (λ o. C' o.bounds) (λ o. c o.bounds) l.controls L.controls;
      pause = d l.pause L.pause;
      playback = d l.playback L.playback;
      speed = d l.speed L.speed;
      mute = d l.mute L.mute;
      sticks = each_imp C C' c l.sticks L.sticks;
    }

pub shrunk_bounded : {l : Layout} → Shrunk l → Bounded l
shrunk_bounded L = every_imp (λ r P. placed_element P tt) (λ r P. placed_element P tt) L

pub arranged_shrunk : {l : Layout} → Arranged l → Shrunk l
arranged_shrunk L = every_imp (λ r P. placed_shrunk P tt) (λ r P. placed_shrunk P tt) L

pub arranged_bounded : {l : Layout} → Arranged l → Bounded l
arranged_bounded L = shrunk_bounded (arranged_shrunk L)

-- where the toolbar was anchored anew
pub anchored_shrunk : {l : Layout} → Every (OnScreen shrunk_margin) (Key margin) l → Shrunk l
anchored_shrunk L = every_imp (λ r P. P) (λ r P. placed_shrunk P tt) L

-- ---- the elements
pub bounds_in : {C D : Rect → Type 0} (l : Layout) → Every C D l → Each C (bounds_of l)
bounds_in {C} l B = each_map C (λ c. c.bounds) (control_list l) (each_take (λ c. C c.bounds) l.count l.controls B.controls)

pub elements_in : {C : Rect → Type 0} (l : Layout) → Every C C l → Each C (elements_of l)
unfolding elements_of
elements_in {C} l B =
    B.dpad
    & each_append C (bounds_of l) _ (bounds_in l B)
    (B.pause & B.playback & B.speed & B.mute & each_take C l.stickcount l.sticks B.sticks)

-- ---- changes
module _ {C D : Rect → Type 0} {l : Layout} (L : Every C D l) where
  pub dpad_in : {r : Rect} → C r → Every C D (with_dpad l r)
  dpad_in e = record { dpad = e; controls = L.controls; pause = L.pause; playback = L.playback; speed = L.speed; mute = L.mute; sticks = L.sticks }

  pub controls_in : {cs : List Control} → Each (λ c. C c.bounds) cs → Every C D (with_controls l cs)
  controls_in e = record { dpad = L.dpad; controls = e; pause = L.pause; playback = L.playback; speed = L.speed; mute = L.mute; sticks = L.sticks }

  pub sticks_in : {rs : List Rect} → Each C rs → Every C D (with_sticks l rs)
  sticks_in e = record { dpad = L.dpad; controls = L.controls; pause = L.pause; playback = L.playback; speed = L.speed; mute = L.mute; sticks = e }

  pub psp_in : Every C D (psp_inputs_of l)
  unfolding psp_inputs_of
  psp_in =
      record { dpad = L.dpad; controls = each_compact (λ c. C c.bounds) on_psp l.count l.controls L.controls; pause = L.pause; playback = L.playback; speed = L.speed; mute = L.mute; sticks = L.sticks }

pub set_elements_in : {C : Rect → Type 0} {l : Layout} (rs : List Rect) → l.count + 5 ≤ length rs → Every C C l → Each C rs → Every C C (set_elements_of l rs)
unfolding set_elements_of
set_elements_in {C} {l} rs h L e =
    record {
      dpad = each_at C 0 rs any_rect (omega arith) e;
      controls = each_replaced (λ c. C c.bounds) l.count (zip_with with_bounds l.controls (drop 1 rs)) l.controls (each_bounds C l.controls (drop 1 rs) (each_drop C 1 rs e)) L.controls;
      pause = each_at C (l.count + 1) rs any_rect (omega arith) e;
      playback = each_at C (l.count + 2) rs any_rect (omega arith) e;
      speed = each_at C (l.count + 3) rs any_rect (omega arith) e;
      mute = each_at C (l.count + 4) rs any_rect (omega arith) e;
      sticks = each_replaced C l.stickcount (drop (l.count + 5) rs) l.sticks (each_drop C (l.count + 5) rs e) L.sticks;
    }

-- ---- a change of every element
module _ (C C' : Rect → Type 0) (f : Rect → Rect) (fc : (r : Rect) → C r → C' (f r)) where
  mapped_controls : (n : ℕ) (cs : List Control) (rest : List Rect) → Each (λ c. C c.bounds) cs → Each (λ c. C' c.bounds) (take n (zip_with with_bounds cs (map f (map (λ c. c.bounds) (take n cs) ++ rest))))
  unfolding zip_with
  mapped_controls zero cs rest e = tt
  mapped_controls (suc n) [] rest e = tt
  mapped_controls (suc n) (c ∷ cs) rest e = (fc c.bounds e.0, mapped_controls n cs rest e.1)

module _ (C D C' D' : Rect → Type 0) (f : Rect → Rect) (fc : (r : Rect) → C r → C' (f r)) (fd : (r : Rect) → D r → D' (f r)) (wider : (r : Rect) → C r → C' r) where
  pub map_elements_in : (l : Layout) → l.count ≤ length l.controls → l.stickcount ≤ length l.sticks → Every C D l → Every C' D' (set_elements_of l (map f (elements_of l)))
  unfolding set_elements_of elements_of
  map_elements_in l cs ss L =
      record {
        dpad = fc l.dpad L.dpad;
        controls = each_append (λ c. C' c.bounds) (take n (zip_with with_bounds l.controls (map f (bounds_of l ++ last)))) (drop n l.controls) (mapped_controls C C' f fc n l.controls last L.controls)
            (each_drop (λ c. C' c.bounds) n l.controls (each_imp (λ c. C c.bounds) (λ c. C' c.bounds) (λ c. wider c.bounds) l.controls L.controls));
        pause = key 0 (n + 1) (omega arith) (fd l.pause L.pause);
        playback = key 1 (n + 2) (omega arith) (fd l.playback L.playback);
        speed = key 2 (n + 3) (omega arith) (fd l.speed L.speed);
        mute = key 3 (n + 4) (omega arith) (fd l.mute L.mute);
        sticks = each_append C' (take s (drop (n + 5) rs)) (drop s l.sticks) (each_take C' s (drop (n + 5) rs) sticks) (each_drop C' s l.sticks (each_imp C C' wider l.sticks L.sticks));
      }
    where
      n : ℕ
      n = l.count

      s : ℕ
      s = l.stickcount

      first : List Rect
      first = l.dpad ∷ bounds_of l

      last : List Rect
      last = l.pause ∷ l.playback ∷ l.speed ∷ l.mute ∷ stick_list l

      rs : List Rect
      rs = map f (first ++ last)

      sized : length (map f first) ≡ n + 1
      sized = let k = length_bounds l cs ss in let e : suc (length (bounds_of l)) ≡ n + 1 = omega arith in length-map first f ∙ e

      parted : rs ≡ map f first ++ map f last
      parted = map-append f first last

      key : (k i : ℕ) → i ≡ n + 1 + k → D' (get_or (map f last) k any_rect) → D' (get_or rs i any_rect)
      key k i e d =
          let e' : i ≡ length (map f first) + k = omega (arith, sized) in
          subst D' (sym (ap (λ (xs : List Rect). get_or xs i any_rect) parted ∙ ap (λ (j : ℕ). get_or (map f first ++ map f last) j any_rect) e' ∙ get_or-append-add (map f first) (map f last) k any_rect)) d

      sticks : Each C' (drop (n + 5) rs)
      sticks =
          let e : n + 5 ≡ length (map f first) + 4 = omega (arith, sized) in
          subst (Each C') (sym (ap (drop (n + 5)) parted ∙ ap (λ (j : ℕ). drop j (map f first ++ map f last)) e ∙ drop-append-add (map f first) (map f last) 4))
          (each_map C' f (stick_list l) (each_imp C (λ r. C' (f r)) fc (stick_list l) (each_take C s l.sticks L.sticks)))
