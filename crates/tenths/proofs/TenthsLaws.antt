-- Laws of exact tenths: the tenths of a sum are those of its summands' tenfolds, and how large they are.
use mathlib.Core.Path.{◌≡◌, refl, ap}
use mathlib.Core.Logic.{◌⊎◌, inl, inr}
use Prim.Native.Nat.{ℕ, ◌+◌, ◌*◌, ◌^◌, ◌≤◌, ◌<◌}
use native.Mathlib.Nat.{mul-le-mul_right}
use native.Mathlib.Omega.{arith}
use lib.Ieee.{Float, of_bits}
use lib.IntN.{ℤ, pos, ◌+ℤ◌, ◌*ℤ◌, +ℤ_idr}
use lib.Dec.{lit<}
use lib.Pow.{pow_pos}
use lib.Signed.{shr_z}
use Rattle.float.specs.Float.{k0}
use Rattle.numerics.specs.Value.{magnitude, value, above, below, eps, AtMost}
use Rattle.numerics.proofs.Integers.{add_parts, mul_parts, value_parts}
use Rattle.tenths.specs.Tenths.{tenths_of, tenfold_of}
use Rattle.tenths.proofs.Floors.{Floor, floor, moved, floor_one, Small, floor_small}

-- ten times v and h more
ten_parts : (v : ℤ) (h : ℕ) → above (v *ℤ pos 10 +ℤ pos h) + below v * 10 ≡ above v * 10 + h + below (v *ℤ pos 10 +ℤ pos h)
ten_parts v h = omega (arith, add_parts (v *ℤ pos 10) (pos h), (mul_parts v 10).0, (mul_parts v 10).1)

pub tenths_floor : (v : ℤ) → Floor (above v * 10 + 2 ^ 148) (below v * 10) (2 ^ 149) (tenths_of v)
unfolding tenths_of
tenths_floor v = moved _ _ (ten_parts v (2 ^ 148)) (floor (v *ℤ pos 10 +ℤ pos (2 ^ 148)) (pow_pos 149))

-- the parts of a sum, k times and h more
sum_parts : (x w : ℤ) (k h : ℕ) → (above (x +ℤ w) * k + h) + (below x + below w) * k ≡ (above x + above w) * k + h + below (x +ℤ w) * k
sum_parts x w k h = let e = ap (λ (n : ℕ). n * k) (add_parts x w) in omega arith

-- an edge
pub edge_floor : (x w : ℤ) → Floor ((above x + above w) * 10 + 2 ^ 148) ((below x + below w) * 10) (2 ^ 149) (tenths_of (x +ℤ w))
edge_floor x w = moved _ _ (sum_parts x w 10 (2 ^ 148)) (tenths_floor (x +ℤ w))

pub tenfold_floor : (v : ℤ) → Floor (above v * 10) (below v * 10) (2 ^ 114) (tenfold_of v)
unfolding tenfold_of
tenfold_floor v = let m = mul_parts v 10 in moved _ _ (omega (arith, m.0, m.1)) (floor (v *ℤ pos 10) (pow_pos 114))

-- a and b are ten times x and w, rounded down to multiples of d, of which 2 k are 1; f is their sum, rounded
module _ (d k : ℕ) (x w a b f : ℤ)
    (A : Floor (above x * 10) (below x * 10) d a) (B : Floor (above w * 10) (below w * 10) d b)
    (F : Floor (above a + above b + k) (below a + below b) (k * 2) f) where
  -- one of the two is such a multiple: the other's rounding is the only one
  pub one_rounded : above w * 10 + below b * d ≡ above b * d + below w * 10 → Floor ((above x + above w) * 10 + k * d) ((below x + below w) * 10) (k * 2 * d) f
  one_rounded e = record { lo = omega (arith, mul-le-mul_right d F.lo); hi = omega (arith, mul-le-mul_right d F.hi) }

  pub other_rounded : above x * 10 + below a * d ≡ above a * d + below x * 10 → Floor ((above x + above w) * 10 + k * d) ((below x + below w) * 10) (k * 2 * d) f
  other_rounded e = record { lo = omega (arith, mul-le-mul_right d F.lo); hi = omega (arith, mul-le-mul_right d F.hi) }

  -- both are small: the sum is rounded to 0
  pub both_small : (s : ℕ) → (above x + below x) * 10 ≤ s * d → (above w + below w) * 10 ≤ s * d → 4 * s < k → Floor ((above x + above w) * 10 + k * d) ((below x + below w) * 10) (k * 2 * d) f
  both_small s p q l =
      let sa = floor_small s A (omega arith) in
      let sb = floor_small s B (omega arith) in
      let z : f ≡ pos 0 = floor_one F (record { lo = omega arith; hi = omega arith }) in
      rw z (record { lo = omega (arith, mul-le-mul_right d l); hi = omega (arith, mul-le-mul_right d l) })

-- ten times v is a whole number of 2^-35, or small
abbrev pub Grain : ℤ → Type 0
Grain v = (above v * 10 + below (tenfold_of v) * 2 ^ 114 ≡ above (tenfold_of v) * 2 ^ 114 + below v * 10) ⊎ ((above v + below v) * 10 ≤ 0x400_0000 * 2 ^ 114)

sum_floor : (x w : ℤ) → Grain x → Grain w → (f : ℤ) → Floor (above (tenfold_of x) + above (tenfold_of w) + 2 ^ 34) (below (tenfold_of x) + below (tenfold_of w)) (2 ^ 35) f
    → Floor ((above x + above w) * 10 + 2 ^ 148) ((below x + below w) * 10) (2 ^ 149) f
sum_floor x w g (inl h) f F = one_rounded (2 ^ 114) (2 ^ 34) x w (tenfold_of x) (tenfold_of w) f (tenfold_floor x) (tenfold_floor w) F h
sum_floor x w (inl g) (inr h) f F = other_rounded (2 ^ 114) (2 ^ 34) x w (tenfold_of x) (tenfold_of w) f (tenfold_floor x) (tenfold_floor w) F g
sum_floor x w (inr g) (inr h) f F = both_small (2 ^ 114) (2 ^ 34) x w (tenfold_of x) (tenfold_of w) f (tenfold_floor x) (tenfold_floor w) F 0x400_0000 g h (lit< tt)

-- the tenths of a sum, by the tenfolds of its summands
pub tenths_sum : (x w : ℤ) → Grain x → Grain w → shr_z (tenfold_of x +ℤ tenfold_of w +ℤ pos (2 ^ 34)) (2 ^ 35) ≡ tenths_of (x +ℤ w)
tenths_sum x w g h =
    let a = tenfold_of x in
    let b = tenfold_of w in
    let e : above (a +ℤ b +ℤ pos (2 ^ 34)) + (below a + below b) ≡ above a + above b + 2 ^ 34 + below (a +ℤ b +ℤ pos (2 ^ 34)) = omega (arith, add_parts (a +ℤ b) (pos (2 ^ 34)), add_parts a b) in
    floor_one (sum_floor x w g h _ (moved _ _ e (floor (a +ℤ b +ℤ pos (2 ^ 34)) (pow_pos 35)))) (edge_floor x w)

-- ---- sizes
-- `omega` takes no number of more than 38 digits, so powers are variables here
few_units : (p q u n s : ℕ) → p + q ≤ u * n → n * 10 + 128 ≤ 256 * s → p * 10 + 128 * u + q * 10 ≤ s * (256 * u)
few_units p q u n s h k = omega (arith, mul-le-mul_right u k)

few_grains : (p q d n : ℕ) → p + q ≤ 0x800_0000 * d * n → p * 10 + q * 10 ≤ 0x5000_0000 * n * d
few_grains p q d n h = omega arith

sum_size : {x w : Float} {n m : ℕ} → AtMost x n → AtMost w m → above (value x) + above (value w) + (below (value x) + below (value w)) ≤ eps * (n + m)
sum_size {x} {w} a b =
    let v = value_parts x a.whole in
    let u = value_parts w b.whole in
    omega (arith, v.0, v.1, u.0, u.1, a.size, b.size)

-- n and m are in 256ths, s in tenths
pub edge_small : (x w : Float) {n m : ℕ} (s : ℕ) → AtMost x n → AtMost w m → (n + m) * 10 + 128 ≤ 256 * s → Small s (tenths_of (value x +ℤ value w))
unfolding eps
edge_small x w {n} {m} s a b h = floor_small s (edge_floor (value x) (value w)) (few_units (above (value x) + above (value w)) (below (value x) + below (value w)) (2 ^ 141) (n + m) s (sum_size a b) h)

pub tenfold_small : (v : ℤ) (n : ℕ) → above v + below v ≤ eps * n → Small (0x5000_0000 * n) (tenfold_of v)
unfolding eps
tenfold_small v n h = floor_small (0x5000_0000 * n) (tenfold_floor v) (few_grains (above v) (below v) (2 ^ 114) n h)

-- ---- an edge from zero on
zero_value : value k0 ≡ pos 0
unfolding of_bits magnitude
zero_value = refl

pub edge_alone : (x : Float) → tenths_of (value x +ℤ value k0) ≡ tenths_of (value x)
edge_alone x = rw (zero_value, +ℤ_idr (value x))
