-- Laws of printed sides: from a corner they end at the rounded edge, they differ from their own tenths by one at most, and are at least zero if the side is.
use mathlib.Core.Path.{◌≡◌, ◌∙◌}
use Prim.Native.Nat.{ℕ, ◌+◌, ◌*◌, ◌^◌, ◌≤◌, ◌<◌}
use native.Mathlib.Nat.{lt_of_mul-lt-mul_right}
use native.Mathlib.Omega.{arith}
use lib.Dec.{T}
use lib.IntN.{ℤ, pos, nat_abs, ◌+ℤ◌, ◌-ℤ◌, +ℤ_comm, -ℤ-+ℤ_cancel}
use lib.Signed.{le_z}
use Rattle.numerics.specs.Value.{above, below}
use Rattle.numerics.proofs.Integers.{le_parts, parts_le, sub_parts}
use Rattle.tenths.specs.Tenths.{tenths_of, span_of}
use Rattle.tenths.proofs.Floors.{Floor, floor_le, small_of, small_abs}
use Rattle.tenths.proofs.TenthsLaws.{tenths_floor, edge_floor}

pub span_meets : (x w : ℤ) → tenths_of x +ℤ span_of x w ≡ tenths_of (x +ℤ w)
unfolding span_of
span_meets x w = +ℤ_comm (tenths_of x) (tenths_of (x +ℤ w) -ℤ tenths_of x) ∙ -ℤ-+ℤ_cancel (tenths_of (x +ℤ w)) (tenths_of x)

-- the side by parts
span_parts : (x w : ℤ) → above (span_of x w) + below (tenths_of (x +ℤ w)) + above (tenths_of x) ≡ below (span_of x w) + above (tenths_of (x +ℤ w)) + below (tenths_of x)
unfolding span_of
span_parts x w = sub_parts (tenths_of (x +ℤ w)) (tenths_of x)

-- a and b are x and w rounded, f their sum, where h is a half
module _ (x w a b f : ℤ) (h : ℕ)
    (A : Floor (above x * 10 + h) (below x * 10) (2 * h) a) (B : Floor (above w * 10 + h) (below w * 10) (2 * h) b)
    (F : Floor ((above x + above w) * 10 + h) ((below x + below w) * 10) (2 * h) f) where
  no_more : above f + below a + below b < below f + above a + above b + 2
  no_more = lt_of_mul-lt-mul_right (2 * h) (omega arith)

  no_less : below f + above a + above b < above f + below a + below b + 2
  no_less = lt_of_mul-lt-mul_right (2 * h) (omega arith)

pub span_near : (x w : ℤ) → nat_abs (span_of x w -ℤ tenths_of w) ≤ 1
span_near x w =
    let p = span_parts x w in
    let d = sub_parts (span_of x w) (tenths_of w) in
    let m = no_more x w (tenths_of x) (tenths_of w) (tenths_of (x +ℤ w)) (2 ^ 148) (tenths_floor x) (tenths_floor w) (edge_floor x w) in
    let l = no_less x w (tenths_of x) (tenths_of w) (tenths_of (x +ℤ w)) (2 ^ 148) (tenths_floor x) (tenths_floor w) (edge_floor x w) in
    small_abs _ (small_of 1 (span_of x w -ℤ tenths_of w) (omega arith) (omega arith))

-- a power is a variable here, as in TenthsLaws
grows : (p q r s h : ℕ) → s ≤ r → p * 10 + h + (q + s) * 10 ≤ (p + r) * 10 + h + q * 10
grows p q r s h k = omega arith

pub span_at_least_zero : (x w : ℤ) → T (le_z (pos 0) w) → T (le_z (pos 0) (span_of x w))
span_at_least_zero x w h =
    let g : below w ≤ above w = omega (arith, le_parts (pos 0) w h) in
    let p = span_parts x w in
    let l = floor_le (tenths_floor x) (edge_floor x w) (grows (above x) (below x) (above w) (below w) (2 ^ 148) g) in
    parts_le (pos 0) (span_of x w) (omega arith)
