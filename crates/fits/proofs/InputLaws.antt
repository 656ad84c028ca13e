-- The inputs of `fits` by index, as the Rust has them: the element at each index of `controller_elements`, with whether that index is a face control's.
use mathlib.Core.Path.{◌≡◌, refl, ap, ap₂, sym, ◌∙◌}
use mathlib.Core.Bool.{Bool, false, ◌&&◌}
use mathlib.Core.List.{List, [], ◌∷◌, ◌++◌, map, map-append}
use Prim.Native.Nat.{ℕ, zero, suc, ◌+◌, ◌-◌, ◌<◌, ◌≤◌}
use native.Mathlib.Omega.{arith}
use borrow.Author.Tests.{lt-ltb, le-ltb}
use lib.Dec.{ltb}
use lib.ListN.{length, get_or}
use lib.Seq.{get_or-take, length-take-le}
use Rattle.prelude.specs.Lists.{count_from}
use Rattle.layout.specs.declared.Control.{Control}
use Rattle.layout.specs.declared.Layout.{Layout}
use Rattle.layout.specs.Label.{is_face_of}
use Rattle.layout.specs.Layout.{any_rect, any_control, control_list, stick_list, element_of, element_count_of}
use Rattle.layout.specs.Elements.{controller_elements_of}
use Rattle.layout.proofs.ElementLaws.{element_control, element_stick}
use Rattle.fits.specs.declared.Input.{Input}
use Rattle.fits.specs.Fits.{input, from_control, from_stick, inputs_of}

-- `face`: `index.checked_sub(1).and_then(|n| layout.controls.get(n)).is_some_and(|c| c.is_face())`
abbrev pub face_of : Layout → ℕ → Bool
face_of l zero = false
face_of l (suc n) = ltb n (length (control_list l)) && is_face_of (get_or (control_list l) n any_control).label

-- f of each of as many numbers as a list has elements
map_count : {A B : Type 0} (f : ℕ → B) (g : A → B) (d : A) (xs : List A) (a : ℕ) → ((k : ℕ) → k < length xs → f (a + k) ≡ g (get_or xs k d)) → map f (count_from a (length xs)) ≡ map g xs
map_count f g d [] a h = refl
map_count {A} {B} f g d (x ∷ xs) a h =
    let e : a ≡ a + 0 = omega arith in
    ap₂ (λ (y : B) (ys : List B). y ∷ ys) (ap f e ∙ h 0 (omega arith)) (map_count f g d xs (suc a) (λ k p. let q : suc a + k ≡ a + suc k = omega arith in ap f q ∙ h (suc k) (omega arith)))

module _ (l : Layout) (cs : l.count ≤ length l.controls) (ss : l.stickcount ≤ length l.sticks) where
  abbrev at : ℕ → Input
  at i = input (element_of l i) (face_of l i)

  size : (length (control_list l) ≡ l.count) × (length (stick_list l) ≡ l.stickcount)
  size = (length-take-le l.count l.controls cs, length-take-le l.stickcount l.sticks ss)

  control_input : (k : ℕ) → k < length (control_list l) → at (1 + k) ≡ from_control (get_or (control_list l) k any_control)
  control_input k h =
      let n = size in
      let e : 1 + k ≡ suc k = omega arith in
      ap at e
      ∙ ap₂ input
      (element_control l (suc k) k refl (omega arith) ∙ ap (λ (c : Control). c.bounds) (sym (get_or-take l.count l.controls k any_control (omega arith))))
      (rw (lt-ltb k (length (control_list l)) h))

  stick_input : (k : ℕ) → k < length (stick_list l) → at (l.count + 5 + k) ≡ from_stick (get_or (stick_list l) k any_rect)
  stick_input k h =
      let n = size in
      let e : l.count + 5 + k ≡ suc (l.count + 4 + k) = omega arith in
      ap at e
      ∙ ap₂ input
      (element_stick l (suc (l.count + 4 + k)) k (omega arith) ∙ sym (get_or-take l.stickcount l.sticks k any_rect (omega arith)))
      (rw (le-ltb (l.count + 4 + k) (length (control_list l)) (omega arith)))

  -- for the reader: no proof cites this law
  pub inputs_by_index : inputs_of l ≡ map (λ i. input (element_of l i) (face_of l i)) (controller_elements_of l)
  unfolding inputs_of controller_elements_of element_of
  inputs_by_index =
      let n = size in
      let a : l.count + 1 - 0 ≡ suc (length (control_list l)) = omega arith in
      let b : element_count_of l - (l.count + 5) ≡ length (stick_list l) = omega arith in
      rw (map-append, a, b)
      (ap₂ (λ (x y : List Input). at 0 ∷ (x ++ y))
      (sym (map_count at from_control any_control (control_list l) 1 control_input))
      (sym (map_count at from_stick any_rect (stick_list l) (l.count + 5) stick_input)))
