-- How long what is written is.
use mathlib.Core.Path.{◌≡◌, refl, sym, ◌∙◌}
use mathlib.Core.List.{List, [], ◌∷◌, flat_map}
use Prim.Native.Nat.{ℕ, ◌*◌}
use native.Mathlib.Nat.{mul-zero, mul-suc}
use native.Mathlib.Omega.{arith}
use lib.Ieee.{Float}
use lib.ListN.{length, length-append}
use Rattle.geometry.specs.declared.Rect.{Rect}
use Rattle.wire.specs.Wire.{short_bytes, number_bytes, rect_bytes, head_bytes}

pub length_f32 : (x : Float) → length (number_bytes x) ≡ 4
unfolding number_bytes
length_f32 x = refl

pub length_rect : (r : Rect) → length (rect_bytes r) ≡ 16
unfolding rect_bytes number_bytes
length_rect r = refl

pub length_field_head : (tag n : ℕ) → length (head_bytes tag n) ≡ 3
unfolding head_bytes short_bytes
length_field_head tag n = refl

module _ {A : Type 0} (f : A → List ℕ) (w : ℕ) (each : (a : A) → length (f a) ≡ w) where
  pub length_items : (l : List A) → length (flat_map f l) ≡ w * length l
  unfolding flat_map
  length_items [] = sym (mul-zero w)
  length_items (x ∷ l) = length-append (f x) (flat_map f l) ∙ rw (each x, length_items l, mul-suc w (length l)) (omega arith)
