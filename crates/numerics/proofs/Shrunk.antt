-- A number scaled, x * y / z with y and z above 0, keeps its sign. So scaled down, as `analog_default` does on a small surface, it keeps its range but for 11/256.
use mathlib.Core.Path.{◌≡◌, refl, ap, ◌∙◌}
use mathlib.Core.Bool.{Bool, true, false, ◌&&◌}
use Prim.Native.Nat.{ℕ, suc, ◌+◌, ◌-◌, ◌*◌, ◌≤◌, ◌<◌}
use native.Mathlib.Nat.{mul-le-mul_left}
use native.Mathlib.Omega.{arith}
use lib.Dec.{T, leb, ltb, ltb→lt}
use lib.Ieee.{Float, nan, inf, fin, binary32, unlike, div}
use lib.Ieee.Fits.{mul-fits}
use lib.Ieee.Scale.{finite}
use Rattle.prelude.proofs.Booleans.{all_four}
use Rattle.float.specs.Float.{◌⊗◌, ◌⊘◌}
use Rattle.geometry.specs.declared.Rect.{Rect}
use Rattle.geometry.specs.Rect.{new_of}
use Rattle.numerics.specs.Value.{magnitude, sign, Whole, pos_if, neg_if, pos_part, neg_part, eps, limit, Le}
use Rattle.numerics.specs.Range.{In, at, minus, reach}
use Rattle.numerics.specs.Rects.{max_area, Placed, margin, shrunk_margin}
use Rattle.numerics.proofs.Rounding.{round_ind}
use Rattle.numerics.proofs.Operations.{Rounded, fits_whole, mul_rounded, div_rounded}
use Rattle.numerics.proofs.Bounds.{eps_pos, most_more}
use Rattle.numerics.proofs.Ranges.{in_more, most_in, range_most}
use Rattle.numerics.proofs.Products.{scaledable, scaled_in, le_magnitude}

-- ---- signs
rounded_sign : {r : Float} {s : Bool} {Z W : ℕ} → Rounded r s Z W → sign r ≡ s
rounded_sign {s = s} h = rw h.is (round_ind (λ z. sign z ≡ s) binary32 s h.a h.c refl (λ m e. refl))

-- a finite quotient is one of a finite number
dividend : (x z : Float) → Whole z → Whole (x ⊘ z) → T (finite x)
unfolding div
dividend nan z q r = r
dividend (inf s) nan q r = q
dividend (inf s) (inf t) q r = q
dividend (inf s) (fin t n d) q r = r
dividend (fin s m e) z q r = tt

-- the parts of a number by its sign
record Parts (s : Bool) (x : Float) : Type 0 where
  pub pos : pos_part x ≡ pos_if s (magnitude x)
  pub neg : neg_part x ≡ neg_if s (magnitude x)

parts : (x : Float) (s : Bool) → sign x ≡ s → Parts s x
unfolding pos_part neg_part
parts x s q = record { pos = ap (λ (t : Bool). pos_if t (magnitude x)) q; neg = ap (λ (t : Bool). neg_if t (magnitude x)) q }

record Positive (y : Float) : Type 0 where
  pub plus : sign y ≡ false
  pub size : 0 < magnitude y

positive : {y : Float} {a b : ℕ} → In y a b → T (ltb limit a) → Positive y
positive {y} {a} i t = go (sign y) refl (parts y (sign y) refl) (mul-le-mul_left eps (ltb→lt limit a t)) eps_pos
  where
    go : (s : Bool) → sign y ≡ s → Parts s y → eps * suc limit ≤ eps * a → 0 < eps → Positive y
    go false q v k e = record { plus = q; size = omega (arith, i.lo, v.pos) }
    go true q v k e = absurd (let z : ⊥ = omega (arith, i.lo, v.pos) in z)

-- ---- y and z above 0, and y at most j times z
module _ (j : ℕ) {y z : Float} {c d e f : ℕ} (Y : In y c d) (Z : In z e f) (less : magnitude y ≤ j * magnitude z) (y0 : T (ltb limit c)) (z0 : T (ltb limit e)) where
  scaled_sign : (x : Float) → Whole x → Whole (x ⊗ y ⊘ z) → sign (x ⊗ y ⊘ z) ≡ sign x
  scaled_sign x p r =
      let u = positive Y y0 in
      let v = positive Z z0 in
      let m = fits_whole (x ⊗ y) (dividend (x ⊗ y) z Z.whole r) (mul-fits binary32 x y) in
      rw (rounded_sign (div_rounded (x ⊗ y) z m Z.whole v.size), rounded_sign (mul_rounded x y p Y.whole), u.plus, v.plus) (like (sign x))
    where
      like : (s : Bool) → unlike (unlike s false) false ≡ s
      like false = refl
      like true = refl

  -- each end of the range by itself
  pub signed_in : {x : Float} {a b : ℕ} → In x a b → T (scaledable j a limit c d e) → T (scaledable j limit b c d e) → In (x ⊗ y ⊘ z) (limit - (reach a limit * j + 11)) (limit + (reach limit b * j + 11))
  signed_in {x} {a} {b} i t u = go (sign x) (parts x (sign x) refl) refl
    where
      r : Float
      r = x ⊗ y ⊘ z

      lower : (k : ℕ) → eps * (limit - k) ≤ eps * limit
      lower k = mul-le-mul_left eps (omega arith)

      upper : (k : ℕ) → eps * limit ≤ eps * (limit + k)
      upper k = mul-le-mul_left eps (omega arith)

      go : (s : Bool) → Parts s x → sign x ≡ s → In r (limit - (reach a limit * j + 11)) (limit + (reach limit b * j + 11))
      go false v q =
          let near = scaled_in j {a = limit} {b = b} (record { whole = i.whole; lo = omega (arith, v.neg); hi = i.hi }) Y Z less u in
          let w = parts r false (scaled_sign x i.whole near.whole ∙ q) in
          record { whole = near.whole; lo = omega (arith, w.neg, lower (reach a limit * j + 11)); hi = near.hi }
      go true v q =
          let near = scaled_in j {a = a} {b = limit} (record { whole = i.whole; lo = i.lo; hi = omega (arith, v.pos) }) Y Z less t in
          let w = parts r true (scaled_sign x i.whole near.whole ∙ q) in
          record { whole = near.whole; lo = near.lo; hi = omega (arith, w.pos, upper (reach limit b * j + 11)) }

-- ---- y from 1 to 8192, and at most z, which is 360 at least
pub record Shrinks (y z : Float) : Type 0 where
  pub part : In y (at 1) (at 8192)
  pub full : In z (at 360) (at 8192)
  pub less : Le 1 y z

abbrev pub shrinkable : ℕ → ℕ → Bool
shrinkable a b = scaledable 1 a b (at 1) (at 8192) (at 360)

module _ {y z : Float} (S : Shrinks y z) where
  shrunk : {x : Float} {a b : ℕ} → In x a b → T (shrinkable a b) → In (x ⊗ y ⊘ z) (limit - (reach a b * 1 + 11)) (limit + (reach a b * 1 + 11))
  shrunk i t = scaled_in 1 i S.part S.full (le_magnitude z S.part tt S.less) t

  shrunk_in : {x : Float} {a b : ℕ} → In x a b → T (shrinkable a limit) → T (shrinkable limit b) → In (x ⊗ y ⊘ z) (limit - (reach a limit * 1 + 11)) (limit + (reach limit b * 1 + 11))
  shrunk_in i t u = signed_in 1 S.part S.full (le_magnitude z S.part tt S.less) tt tt i t u

-- ---- a rectangle of an arrangement, which may lie a little further off the screen then
-- both ends of a range, shrunk, lie in another
abbrev shrinks_into : ℕ → ℕ → ℕ → ℕ → Bool
shrinks_into a b a' b' = shrinkable a limit && (shrinkable limit b && (leb a' (limit - (reach a limit * 1 + 11)) && leb (limit + (reach limit b * 1 + 11)) b'))

shrunk_into : {x y z : Float} {a b : ℕ} (a' b' : ℕ) → Shrinks y z → In x a b → T (shrinks_into a b a' b') → In (x ⊗ y ⊘ z) a' b'
shrunk_into {a = a} {b = b} a' b' S i t =
    let s = all_four (shrinkable a limit) (shrinkable limit b) (leb a' (limit - (reach a limit * 1 + 11))) (leb (limit + (reach limit b * 1 + 11)) b') t in
    in_more a' b' (shrunk_in S i s.0 s.1) s.2 s.3

pub shrunk_placed : {above : ℕ} {r : Rect} {w h w' h' : Float} → Shrinks w w' → Shrinks h h' → Placed above margin r → T (shrinks_into (minus (above + margin)) (at (8192 + margin)) (minus (above + shrunk_margin)) (at (8192 + shrunk_margin)))
    → Placed above shrunk_margin (new_of (r.x ⊗ w ⊘ w') (r.y ⊗ h ⊘ h') (r.w ⊗ w ⊘ w') (r.h ⊗ h ⊘ h'))
shrunk_placed {above} W H P t =
    record {
      x = shrunk_into (minus shrunk_margin) (at (8192 + shrunk_margin)) W P.x tt;
      y = shrunk_into (minus (above + shrunk_margin)) (at (8192 + shrunk_margin)) H P.y t;
      w = range_most (max_area + shrunk_margin) (shrunk W (most_in P.w tt) tt) tt;
      h = range_most (max_area + shrunk_margin) (shrunk H (most_in P.h tt) tt) tt;
    }

pub placed_shrunk : {above : ℕ} {r : Rect} → Placed above margin r → T (leb (minus (above + shrunk_margin)) (minus (above + margin))) → Placed above shrunk_margin r
placed_shrunk {above} P t =
    record {
      x = in_more (minus shrunk_margin) (at (8192 + shrunk_margin)) P.x tt tt;
      y = in_more (minus (above + shrunk_margin)) (at (8192 + shrunk_margin)) P.y t tt;
      w = most_more P.w (max_area + shrunk_margin) tt;
      h = most_more P.h (max_area + shrunk_margin) tt;
    }
