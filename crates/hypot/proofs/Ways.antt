-- The two ways of `finite`: the larger side by itself, and the root rounded.
use mathlib.Core.Path.{◌≡◌, sym, ◌∙◌}
use mathlib.Core.Logic.{◌⊎◌, inl, inr}
use Prim.Native.Nat.{ℕ, suc, ◌+◌, ◌-◌, ◌*◌, ◌/◌, ◌^◌, ◌≤◌, ◌<◌, compare, Ordering}
use native.Mathlib.Nat.{le_trans, le_of_eq, le_of_lt, lt_of_lt_of_le, lt_of_not-le, lt_irrefl, le_of_suc-le-suc, le-add_right, min-eq_left, mul-le-mul, mul-le-mul_left, mul-le-mul_right, mul-lt-mul_of_pos_right, mul_assoc, mul_comm, mul-pos, one-mul, eq-zero-or-pos}
use native.Mathlib.Omega.{arith}
use lib.Pow.{pow_pos, pow-add, pow_mono, pow-lt}
use lib.Ieee.{binary32, nearest, of_bits}
use Rattle.prelude.proofs.Compare.{Cmp, cmp}
use Rattle.hypot.specs.Hypot.{nearest_root}
use Rattle.hypot.specs.Pattern.{exponent_of, significand_of, pattern_value, f32_at}
use Rattle.hypot.specs.Nearest.{mid, Nearest}
use Rattle.hypot.specs.Parts.{root_of}
use Rattle.hypot.proofs.Isqrt.{isqrt_from, isqrt_to, root_within, root_ge, root_cmp}
use Rattle.hypot.proofs.Order.{square_le, square_lt}
use Rattle.hypot.proofs.Value.{significand_lt, value_lt}
use Rattle.hypot.proofs.Rounding.{lower, mid_next, nearest_digits}
use Rattle.hypot.proofs.Theorem.{nearest_is}

pub parts : (p : ℕ) → exponent_of p * 0x80_0000 + significand_of p ≡ p
parts p = omega arith

pub finite_nearest : (n p : ℕ) → p < 0x7f80_0000 → Nearest n p → of_bits binary32 p ≡ nearest_root n
finite_nearest n p h a = rw (min-eq_left (le_of_lt h)) at (nearest_is n p a)

-- ---- far apart: with c * K the larger side and v the smaller, v * v is less than c * K * K
square_less : (c K J v : ℕ) → 0x80_0000 ≤ c → 8192 * J ≤ K → 0 < J * J → v < 0x100_0000 * J → v * v < c * (K * K)
square_less c K J v lead far p small =
    let a : v * v ≤ 0x100_0000 * J * (0x100_0000 * J) = mul-le-mul (omega arith) (omega arith) in
    let b : 0x80_0000 * (8192 * J * (8192 * J)) ≤ c * (K * K) = mul-le-mul lead (mul-le-mul far far) in
    omega (arith, a, b, p)

under_mid : (c K v : ℕ) → v * v < c * (K * K) → 4 * (c * K * (c * K) + v * v) < (2 * c + 1) * K * ((2 * c + 1) * K)
under_mid c K v h = omega (arith, h)

pub far : (p q : ℕ) → p < 0x7f80_0000 → 12 < exponent_of p - exponent_of q → of_bits binary32 p ≡ nearest_root (pattern_value p * pattern_value p + pattern_value q * pattern_value q)
far p q h g =
    let k = exponent_of p in
    let j = exponent_of q in
    let c = significand_of p in
    let n = pattern_value p * pattern_value p + pattern_value q * pattern_value q in
    let top : 0x80_0000 ≤ c = omega arith in
    let scale : 8192 * 2 ^ j ≤ 2 ^ k = le_trans (le_of_eq (sym (pow-add 2 13 j))) (pow_mono (omega arith)) in
    let less = square_less c (2 ^ k) (2 ^ j) (pattern_value q) top scale (mul-pos (pow_pos j) (pow_pos j)) (mul-lt-mul_of_pos_right (significand_lt q) (pow_pos j)) in
    let near : 4 * n < mid (p + 1) p = rw (mid_next k c (significand_lt p) (inr top), parts p) at (under_mid c (2 ^ k) (pattern_value q) less) in
    finite_nearest n p h (lower n p (le-add_right (pattern_value p * pattern_value p) (pattern_value q * pattern_value q)) near)

-- ---- beside a side of zero
pub beside_zero : (p q : ℕ) → p < 0x7f80_0000 → q ≡ 0 → of_bits binary32 p ≡ nearest_root (pattern_value p * pattern_value p + pattern_value q * pattern_value q)
beside_zero p q h z =
    let v = pattern_value p in
    let next = pattern_value (p + 1) in
    let grows : v < next = value_lt {p = p} {q = p + 1} (omega arith) in
    let near : 4 * (v * v + 0) < mid (p + 1) p = omega (arith, square_lt {a = 2 * v} {b = next + v} (omega arith)) in
    rw z (finite_nearest (v * v + 0) p h (lower (v * v + 0) p (omega arith) near))

-- ---- near: both sides counted in units of 2 ^ f, as the code has them
module _ (p q e f a b s : ℕ) (ee : e ≡ exponent_of p) (ff : f ≡ exponent_of q) (aa : a ≡ significand_of p) (bb : b ≡ significand_of q) (ss : s ≡ a * 2 ^ (e - f)) (le : q ≤ p) where
  larger_side : s * 2 ^ f ≡ pattern_value p
  larger_side = let back : e - f + f ≡ e = omega arith in rw (ss, mul_assoc a (2 ^ (e - f)) (2 ^ f), ← (pow-add 2 (e - f) f), back, ee, aa)

  smaller_side : b * 2 ^ f ≡ pattern_value q
  smaller_side = rw (ff, bb)

  pub near : (4 * (pattern_value p * pattern_value p + pattern_value q * pattern_value q) ≡ (2 * s * (2 * s) + 2 * b * (2 * b)) * (2 ^ f * 2 ^ f))
      × ((f ≡ 0) ⊎ (0x200_0000 ≤ root_of (2 * s * (2 * s) + 2 * b * (2 * b))))
  near = (
    rw (← larger_side, ← smaller_side) (omega arith),
    elim (eq-zero-or-pos f) [
      | inl z ↦ inl z
      | inr g ↦
          let m : 0x80_0000 ≤ a = omega arith in
          let k : 0x80_0000 * 1 ≤ s = rw ss (mul-le-mul m (pow_pos (e - f))) in
          inr (omega (arith, isqrt_from (2 * s) (2 * b), root_within (2 * s * (2 * s) + 2 * b * (2 * b))))
    ],
  )

pub root_small : (s n : ℕ) → s < 0x20_0000_0000 → n < 0x200_0000 → root_of (s * s + n * n) < 0x100_0000_0000
root_small s n h k = omega (arith, root_within (s * s + n * n), isqrt_to s n)

pub squares_small : (s n : ℕ) → s < 0x20_0000_0000 → n < 0x200_0000 → s * s + n * n < 2 ^ 76
squares_small s n h k = omega (arith, square_le {a = s} {b = 0x1f_ffff_ffff} (omega arith), square_le {a = n} {b = 0x1ff_ffff} (omega arith))

pub times_power_lt : (m d : ℕ) → m < 0x100_0000 → d ≤ 12 → m * 2 ^ d < 0x10_0000_0000
times_power_lt m d h l = lt_of_lt_of_le (mul-lt-mul_of_pos_right h (pow_pos d)) (mul-le-mul_left 0x100_0000 (pow_mono l))

-- ---- how m compares with a square is how 4 n does, in units of 2 ^ f
module _ (n m f u k : ℕ) (e : 4 * n ≡ m * (2 ^ f * 2 ^ f)) (scale : u * 2 ^ f ≡ 2 ^ k) where
  regroup : (x : ℕ) → x * u * (x * u) * (2 ^ f * 2 ^ f) ≡ x * 2 ^ k * (x * 2 ^ k)
  regroup x = rw (← scale) (omega arith)

  scaled_cmp : (x : ℕ) (o : Ordering) → Cmp o m (x * u * (x * u)) → Cmp o (4 * n) (x * 2 ^ k * (x * 2 ^ k))
  scaled_cmp x o c = rw (e, ← (regroup x)) (times o c)
    where
      times : (o : Ordering) → Cmp o m (x * u * (x * u)) → Cmp o (m * (2 ^ f * 2 ^ f)) (x * u * (x * u) * (2 ^ f * 2 ^ f))
      times Ordering.lt h = mul-lt-mul_of_pos_right h (mul-pos (pow_pos f) (pow_pos f))
      times Ordering.eq h = rw h
      times Ordering.gt h = mul-lt-mul_of_pos_right h (mul-pos (pow_pos f) (pow_pos f))

  scaled_le : (x : ℕ) → x * u * (x * u) ≤ m → x * 2 ^ k * (x * 2 ^ k) ≤ 4 * n
  scaled_le x h = rw (e, ← (regroup x)) (mul-le-mul_right (2 ^ f * 2 ^ f) h)

-- ---- the root rounded: c is what is left of w / 4 with k - f places dropped, and u is 2 ^ (k - f)
pub record LeadingDigits (w f c u k : ℕ) : Type 0 where
  pub lo : c * (4 * u) ≤ w
  pub hi : w < (c + 1) * (4 * u)
  pub scale : u * 2 ^ f ≡ 2 ^ k
  pub few : u ≤ 32768
  pub most : c ≤ w
  pub lead : (k ≡ 0) ⊎ (0x80_0000 ≤ c)

pub rounds : (n m w f c u k : ℕ) → w ≡ root_of m → 4 * n ≡ m * (2 ^ f * 2 ^ f) → LeadingDigits w f c u k → c < 0x100_0000
    → f32_at (k * 0x80_0000 + nearest c (compare w ((2 * c + 1) * (2 * u)))) ≡ nearest_root n
rounds n m w f c u k r e i small =
    let o = compare w ((2 * c + 1) * (2 * u)) in
    let below : 2 * c * 2 ^ k * (2 * c * 2 ^ k) ≤ 4 * n = scaled_le n m f u k e i.scale (2 * c) (root_ge m (2 * c * u) (omega (arith, i.lo, r))) in
    let above : 4 * n < 2 * (c + 1) * 2 ^ k * (2 * (c + 1) * 2 ^ k) =
    scaled_cmp n m f u k e i.scale (2 * (c + 1)) Ordering.lt (root_cmp m (2 * (c + 1) * u) Ordering.lt (omega (arith, i.hi, r))) in
    let twice : (2 * c + 1) * (2 * u) ≡ 2 * ((2 * c + 1) * u) = omega arith in
    let side : Cmp o (root_of m) (2 * ((2 * c + 1) * u)) = rw (← r, ← twice) (cmp w ((2 * c + 1) * (2 * u))) in
    nearest_is n (k * 0x80_0000 + nearest c o)
    (nearest_digits k c small i.lead n o (omega (arith, below)) (omega (arith, above))
    (scaled_cmp n m f u k e i.scale (2 * c + 1) o (root_cmp m ((2 * c + 1) * u) o side)))

pub leading_start : (w f : ℕ) → (f ≡ 0) ⊎ (0x200_0000 ≤ w) → LeadingDigits w f (w / 4) 1 f
leading_start w f l = record {
  lo = omega arith;
  hi = omega arith;
  scale = one-mul (2 ^ f);
  few = omega arith;
  most = omega arith;
  lead = elim l [ inl z ↦ inl z | inr g ↦ inr (omega arith) ];
}

pub leading_next : (w f c u k : ℕ) → LeadingDigits w f c u k → w < 0x100_0000_0000 → 0x100_0000 ≤ c → LeadingDigits w f (c / 2) (u * 2) (k + 1)
leading_next w f c u k i small big =
    let e = c / 2 in
    let down : e * 2 ≤ c = omega arith in
    let up : c + 1 ≤ (e + 1) * 2 = omega arith in
    record {
      lo = omega (arith, mul-le-mul_right (4 * u) down, i.lo);
      hi = omega (arith, mul-le-mul_right (4 * u) up, i.hi);
      scale = omega (arith, i.scale, pow-add 2 k 1);
      few = omega (arith, mul-le-mul_right (4 * u) big, i.lo);
      most = omega arith;
      lead = inr (omega arith);
    }

-- at most 15 places are dropped
pub leading_places : (w f c u k : ℕ) → LeadingDigits w f c u k → k ≤ f + 15
leading_places w f c u k i =
    let p : 2 ^ k ≤ 2 ^ (f + 15) = le_trans (le_of_eq (sym i.scale)) (le_trans (mul-le-mul_right (2 ^ f) i.few) (le_of_eq (mul_comm 32768 (2 ^ f) ∙ sym (pow-add 2 f 15)))) in
    le_of_suc-le-suc (lt_of_not-le (λ (g : suc (f + 15) ≤ k). lt_irrefl (2 ^ (f + 15)) (lt_of_lt_of_le (pow-lt g) p)))
