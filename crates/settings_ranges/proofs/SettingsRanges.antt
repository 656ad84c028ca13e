-- Accepted settings are in range.
use mathlib.Core.Path.{◌≡◌, refl}
use mathlib.Core.Bool.{Bool, true, false, ◌||◌, beq}
use mathlib.Core.List.{List, [], ◌∷◌}
use Prim.Native.Nat.{ℕ, ◌*◌}
use native.Mathlib.Omega.{arith}
use borrow.Author.Tests.{eqb-true}
use denote.Floats.{passes}
use lib.Dec.{T, eqb}
use lib.Ieee.{Float, nan, inf, fin, binary32, of_bits, up, down, fits, le, eq}
use lib.Ieee.Back.{whole_unique}
use lib.Ieee.Bits.{of_bits-fits}
use lib.Ieee.Fits.{down_pos}
use Rattle.prelude.proofs.Booleans.{both}
use Rattle.std.specs.List.{list_all}
use Rattle.prelude.specs.Each.{Each}
use Rattle.float.specs.Float.{k0, k1, k8192}
use Rattle.geometry.specs.declared.Rect.{Rect}
use Rattle.geometry.specs.Rect.{rect_is_f32}
use Rattle.layout.specs.Layout.{cutout_list}
use Rattle.numerics.specs.Range.{In, at, minus}
use Rattle.numerics.specs.Rects.{max_area, Element, Area}
use Rattle.numerics.proofs.Ranges.{neg_in, tested, range_most, element_in}
use Rattle.numerics.proofs.Literals.{lit}
use Rattle.settings.specs.declared.Settings.{Settings}
use Rattle.settings.specs.Settings.{least, in_limits_of, screen_in_limits_of, rect_in_limits_of, place_in_limits_of, cutouts_in_limits_of, accepted_of, IsF32}
use Rattle.settings.proofs.Accepted.{accepted_parts}
use Rattle.settings_ranges.specs.InRange.{InRange}

least_in : In least (minus 8192) (minus 8192)
least_in = neg_in (lit 8192) tt

-- a number that passed the tests, from low to 8192
record Limited (low : Float) (a : ℕ) (x : Float) : Type 0 where
  range : In x a (at 8192)
  above : T (le low x)

limited : {low x : Float} {a b : ℕ} → In low a b → fits binary32 x ≡ true → in_limits_of low x ≡ true → Limited low a x
unfolding in_limits_of
limited {low} {x} i f e =
    let b = both (le low x) (le x k8192) e in
    record { range = tested x (passes _ f) i (lit 8192) (passes _ b.0) (passes _ b.1); above = passes _ b.0 }

-- a rectangle whose w and h are from low
record LimitedRect (low : Float) (a : ℕ) (r : Rect) : Type 0 where
  x : Limited least (minus 8192) r.x
  y : Limited least (minus 8192) r.y
  w : Limited low a r.w
  h : Limited low a r.h

limited_rect : {low : Float} {a b : ℕ} → In low a b → (r : Rect) → rect_in_limits_of low r ≡ true → rect_is_f32 r ≡ true → LimitedRect low a r
unfolding rect_in_limits_of rect_is_f32
limited_rect i r e f =
    let a = both _ _ e in
    let b = both _ _ a.1 in
    let c = both _ _ b.1 in
    let p = both _ _ f in
    let q = both _ _ p.1 in
    let s = both _ _ q.1 in
    record { x = limited least_in p.0 a.0; y = limited least_in q.0 b.0; w = limited i s.0 c.0; h = limited i s.1 c.1 }

area : {r : Rect} → LimitedRect k0 (at 0) r → Area r
area p = record {
  x = range_most max_area p.x.range tt;
  y = range_most max_area p.y.range tt;
  w = range_most max_area p.w.range tt;
  h = range_most max_area p.h.range tt;
  w0 = p.w.above;
  h0 = p.h.above;
}

elements : (l : List Rect) → list_all (rect_in_limits_of least) l ≡ true → list_all rect_is_f32 l ≡ true → Each Element l
elements [] e f = tt
elements (r ∷ l) e f =
    let a = both _ _ e in
    let b = both _ _ f in
    let p = limited_rect least_in r a.0 b.0 in
    (element_in p.x.range p.y.range p.w.range p.h.range tt, elements l a.1 b.1)

-- ---- the f32 that equals 1
is_one : (x : Float) → fits binary32 x ≡ true → eq x k1 ≡ true → x ≡ k1
unfolding eq of_bits
is_one nan f e = cc
is_one (inf s) f e = cc
is_one (fin s m g) f e =
    let h = both (eqb (m * up g * 1) (1 * down g)) (beq s false || eqb (m * up g * 1) 0) e in
    let v = eqb-true _ _ h.0 in
    whole_unique binary32 (fin s m g) k1 false 1 (passes _ f) (of_bits-fits binary32 0x3f80_0000) (plus s v h.1, v) (refl, refl)
  where
    plus : (t : Bool) → m * up g * 1 ≡ 1 * down g → (beq t false || eqb (m * up g * 1) 0) ≡ true → t ≡ false
    plus false v k = refl
    plus true v k = absurd (let z : ⊥ = omega (arith, eqb-true (m * up g * 1) 0 k, down_pos g) in z)

pub accepted_in_range : (s : Settings) → accepted_of s ≡ true → IsF32 s → InRange s
unfolding screen_in_limits_of place_in_limits_of cutouts_in_limits_of
accepted_in_range s e f =
    let a = accepted_parts s e in
    let screen = both _ _ a.screen in
    let place = both _ _ a.place in
    let offset = both _ _ place.1 in
    let p = limited_rect (lit 0) s.picture a.picture f.picture in
    record {
      w = (limited (lit 0) f.w screen.0).range;
      h = (limited (lit 0) f.h screen.1).range;
      area = area p;
      cutouts = elements (cutout_list s.cutouts) a.cutouts f.cutouts;
      scale = (limited least_in f.scale place.0).range.whole;
      offset_x = (limited least_in f.across offset.0).range.whole;
      offset_y = (limited least_in f.down offset.1).range.whole;
      whole_size = is_one s.preset.scale f.scale;
    }
