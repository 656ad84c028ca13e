-- What is left out is what its absence means: equal numbers with no negative zero are the same value.
use mathlib.Core.Path.{◌≡◌, refl, sym, ◌∙◌}
use mathlib.Core.Bool.{true, ◌&&◌}
use mathlib.Core.List.{List, [], ◌∷◌}
use native.Mathlib.Omega.{arith}
use borrow.Author.Tests.{eqb-true}
use lib.Dec.{T}
use lib.Ieee.{Float, binary32, of_bits, fits, lt, eq, ne}
use lib.ListN.{length}
use Rattle.prelude.specs.Lists.{is_empty}
use Rattle.prelude.proofs.Booleans.{either, both}
use Rattle.float.specs.Float.{k0, k0_5, k1}
use Rattle.float.specs.MinMax.{max_of}
use Rattle.geometry.specs.declared.Rect.{Rect}
use Rattle.geometry.specs.Rect.{rect_is_f32}
use Rattle.geometry.specs.declared.Offset.{Offset}
use Rattle.geometry.specs.Offset.{centred}
use Rattle.settings.specs.Settings.{screen_picture_of}
use Rattle.wire.specs.Wire.{plus_zero, plus_zero_rect}
use Rattle.wire.proofs.Rects.{bits_f32}
use Rattle.wire.proofs.PlusZero.{plus_zero_f32, plus_zero_twice, same_number}
use Rattle.order_writer.specs.OrderBytes.{equal_of}
use Rattle.written_order.proofs.Values.{plus_zero_offset}

-- a value of binary32 that is no negative zero
abbrev Plain : Float → Type 0
Plain x = (fits binary32 x ≡ true) × (plus_zero x ≡ x)

plain : (x : Float) → fits binary32 x ≡ true → Plain (plus_zero x)
plain x f = (plus_zero_f32 x f, plus_zero_twice x f)

plain_zero : Plain k0
unfolding plus_zero eq of_bits
plain_zero = (bits_f32 0, refl)

plain_one : Plain k1
unfolding plus_zero eq of_bits
plain_one = (bits_f32 0x3f80_0000, refl)

plain_half : Plain k0_5
unfolding plus_zero eq of_bits
plain_half = (bits_f32 0x3f00_0000, refl)

plain_max : (x y : Float) → Plain x → Plain y → Plain (max_of x y)
unfolding max_of
plain_max x y p q = either Plain (ne x x) q (either Plain (lt x y) q p)

same_value : (x y : Float) → Plain x → Plain y → eq x y ≡ true → x ≡ y
same_value x y p q e =
    let f : T (fits binary32 x) = rw p.0 tt in
    let g : T (fits binary32 y) = rw q.0 tt in
    sym p.1 ∙ same_number x y f g e ∙ q.1

module _ (w h : Float) (p : fits binary32 w ≡ true) (q : fits binary32 h ≡ true) where
  pub picture_left_out : (r : Rect) → rect_is_f32 r ≡ true → equal_of (plus_zero_rect r) (screen_picture_of (plus_zero w) (plus_zero h)) ≡ true → plus_zero_rect r ≡ screen_picture_of (plus_zero w) (plus_zero h)
  unfolding equal_of rect_is_f32
  picture_left_out r f e =
      let fx = both _ _ f in
      let fy = both _ _ fx.1 in
      let fw = both _ _ fy.1 in
      let ex = both _ _ e in
      let ey = both _ _ ex.1 in
      let ew = both _ _ ey.1 in
      rw (
        same_value (plus_zero r.x) k0 (plain r.x fx.0) plain_zero ex.0,
        same_value (plus_zero r.y) k0 (plain r.y fy.0) plain_zero ey.0,
        same_value (plus_zero r.w) (max_of (plus_zero w) k1) (plain r.w fw.0) (plain_max (plus_zero w) k1 (plain w p) plain_one) ew.0,
        same_value (plus_zero r.h) (max_of (plus_zero h) k1) (plain r.h fw.1) (plain_max (plus_zero h) k1 (plain h q) plain_one) ew.1,
      )

module _ (scale : Float) (offset : Offset) (p : fits binary32 scale ≡ true) (q : fits binary32 offset.x ≡ true) (r : fits binary32 offset.y ≡ true) where
  pub place_left_out : (eq (plus_zero scale) k1 && (eq (plus_zero offset.x) k0_5 && eq (plus_zero offset.y) k0_5)) ≡ true
      → (plus_zero scale ≡ k1) × (plus_zero_offset offset ≡ centred)
  place_left_out e =
      let a = both _ _ e in
      let b = both _ _ a.1 in (
        same_value (plus_zero scale) k1 (plain scale p) plain_one a.0,
        rw (same_value (plus_zero offset.x) k0_5 (plain offset.x q) plain_half b.0, same_value (plus_zero offset.y) k0_5 (plain offset.y r) plain_half b.1),
      )

pub empty_list : {A : Type 0} (l : List A) → is_empty l ≡ true → l ≡ []
empty_list [] e = refl
empty_list (x ∷ l) e = absurd (let z = eqb-true (length (x ∷ l)) 0 e in omega arith)
