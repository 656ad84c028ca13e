-- An f32 by its bit pattern: its size, and ten times it in whole numbers of 2^-35.
use mathlib.Core.Path.{◌≡◌, refl, sym, ap, ◌∙◌}
use mathlib.Core.Logic.{◌⊎◌, inl, inr}
use mathlib.Core.Bool.{Bool, true, false, cond}
use Prim.Native.Nat.{ℕ, zero, suc, ◌+◌, ◌-◌, ◌*◌, ◌/◌, ◌%◌, ◌^◌, ◌<◌, ◌≤◌}
use native.Mathlib.Nat.{mul-le-mul, lt_of_lt_of_le, lt_of_not-le, eq-or-lt_of_le}
use native.Mathlib.Omega.{arith}
use lib.Dec.{T, lit≤, leb, ltb, eqb, ltb→lt, nltb→le}
use Rattle.prelude.proofs.Booleans.{by_test}
use lib.IntN.{ℤ, pos, negsuc, neg_ℤ}
use lib.Signed.{shr_z}
use lib.Ieee.{Float, nan, inf, binary32, to_bits, of_fields, odd, fits, lt}
use lib.Ieee.Bits.{of_bits-to_bits}
use lib.Ieee.Exact.{odd_sign}
use lib.Pow.{pow_pos, pow_mono, pow-add, shl_lt}
use Rattle.float.specs.Float.{k0}
use Rattle.float.proofs.Patterns.{of_bits_is, fields_normal}
use Rattle.numerics.proofs.Bounds.{eps_pos, most_magnitude, zero_most}
use Rattle.numerics.proofs.Integers.{value_parts, neg_parts}
use Rattle.numerics.proofs.Operations.{value_is, size_is, one_zero, lt_true, lt_false}
use Rattle.numerics.specs.Value.{value, magnitude, pos_part, neg_part, above, below, Whole, eps, limit, AtMost}
use Rattle.tenths.specs.Tenths.{tenfold_of}
use Rattle.tenths.proofs.Floors.{Floor, floor, moved, finer, coarser, floor_one, floor_exact, Small, more}
use Rattle.tenths.proofs.TenthsLaws.{tenfold_floor, tenfold_small, Grain}

-- ---- a number in range has a small exponent
no_number : (b s : Bool) → Whole (cond b (inf s) nan) → ⊥
no_number true s w = w
no_number false s w = w

no_finite : (s : Bool) (t : ℕ) → Whole (of_fields binary32 s 255 t) → ⊥
unfolding of_fields
no_finite s t w = no_number (eqb t 0) s w

too_large : (g unit p : ℕ) → 0 < unit → p ≡ 0x8000_0000 * unit → p ≤ g → g ≤ unit * limit → ⊥
too_large g unit p u e h k = omega arith

large : 0x80_0000 * 2 ^ 149 ≡ 0x8000_0000 * eps
unfolding eps
large = refl

high_fields : (s : Bool) (e t : ℕ) → 150 ≤ e → e ≤ 255 → AtMost (of_fields binary32 s e t) limit → ⊥
high_fields s zero t h k a = absurd (let z : ⊥ = omega arith in z)
high_fields s (suc x) t h k a = elim (eq-or-lt_of_le k) [
  | inl e ↦ no_finite s t (rw e at a.whole)
  | inr g ↦
      let m = value_is (of_fields binary32 s (suc x) t) s ((0x80_0000 + t) * 2 ^ x) (fields_normal binary32 s x t g) in
      let b : 0x80_0000 * 2 ^ 149 ≤ (0x80_0000 + t) * 2 ^ x = mul-le-mul {n₁ = 0x80_0000} {m₁ = 2 ^ 149} {n₂ = 0x80_0000 + t} {m₂ = 2 ^ x} (omega arith) (pow_mono {i = 149} {j = x} (omega arith)) in
      too_large ((0x80_0000 + t) * 2 ^ x) eps (0x80_0000 * 2 ^ 149) eps_pos large b (rw m.1 at (most_magnitude a))
]

-- ---- sizes by the fields
abbrev digits : ℕ → ℕ → ℕ
digits zero t = t
digits (suc e) t = 0x80_0000 + t

digits_few : (e t : ℕ) → t < 0x80_0000 → digits e t < 2 ^ 24
digits_few zero t h = omega arith
digits_few (suc e) t h = omega arith

size_fields : (s : Bool) (e t : ℕ) → e < 150 → magnitude (of_fields binary32 s e t) ≡ digits e t * 2 ^ (e - 1)
unfolding of_fields
size_fields s zero t h = (value_is (odd 24 s t 0 149) s (t * 2 ^ 0) (odd_sign 24 s t 0 149)).1
size_fields s (suc x) t h =
    let e : suc x - 1 ≡ x = omega arith in
    rw e (value_is (of_fields binary32 s (suc x) t) s ((0x80_0000 + t) * 2 ^ x) (fields_normal binary32 s x t (omega arith))).1

-- ---- powers
small_ten : (g p : ℕ) → g < p → g * 10 ≤ 16 * p
small_ten g p h = omega arith

five : (m q h : ℕ) → m * (q * h) * 10 ≡ 5 * (m * q) * (2 * h)
five m q h = omega arith

-- the code shifts by j what the definition divides by 2^114
shifted : (p q y j : ℕ) {f : ℤ} → j + y ≡ 149 → Floor (p * 0x50_0000_0000) (q * 0x50_0000_0000) (2 ^ j) f → Floor (p * 2 ^ y * 10) (q * 2 ^ y * 10) (2 ^ 114) f
shifted p q y j s a =
    let e : 2 ^ j * 2 ^ y ≡ 2 ^ 114 * 2 ^ 35 = sym (pow-add 2 j y) ∙ ap (λ (z : ℕ). 2 ^ z) s in
    coarser (2 ^ 35) (pow_pos 35) (moved _ _ (omega arith) (rw e at (finer (pow_pos y) a)))

-- of two parts of which one is 0, the lesser is
one_sided : {p n : ℕ} → (p ≡ 0) ⊎ (n ≡ 0) → (n ≤ p → n ≡ 0) × (p ≤ n → p ≡ 0)
one_sided (inl e) = (λ h. omega arith, λ h. e)
one_sided (inr e) = (λ h. e, λ h. omega arith)

-- ---- the number
module _ (x : Float) (held : T (fits binary32 x)) (a : AtMost x limit) where
  abbrev n : ℕ
  n = to_bits binary32 x

  abbrev e : ℕ
  e = n % 0x8000_0000 / 0x80_0000

  abbrev t : ℕ
  t = n % 0x80_0000

  is : of_fields binary32 (leb 0x8000_0000 n) e t ≡ x
  is = sym (of_bits_is binary32 n) ∙ of_bits-to_bits binary32 x held

  pub exponent : e < 150
  exponent = lt_of_not-le (λ (g : 150 ≤ e). high_fields (leb 0x8000_0000 n) e t g (omega arith) (rw is a))

  size : magnitude x ≡ digits e t * 2 ^ (e - 1)
  size = rw is at (size_fields (leb 0x8000_0000 n) e t exponent)

  size_below : (k : ℕ) → e ≤ suc k → magnitude x < 2 ^ (24 + k)
  size_below k h = rw size (lt_of_lt_of_le (shl_lt 24 (e - 1) (digits_few e t (omega arith))) (pow_mono {i = 24 + (e - 1)} {j = 24 + k} (omega arith)))

  parts : (above (value x) ≡ pos_part x) × (below (value x) ≡ neg_part x)
  parts = value_parts x a.whole

  minus : lt x k0 ≡ true → (above (value x) ≡ 0) × (below (value x) ≡ magnitude x) × (0 < magnitude x)
  minus h =
      let l = lt_true x k0 a.whole zero_most.whole (rw h tt) in
      let z = (one_sided (one_zero x)).1 (omega (arith, zero_most.size)) in
      omega (arith, zero_most.size, parts.0, parts.1, size_is x)

  plus : lt x k0 ≡ false → (above (value x) ≡ magnitude x) × (below (value x) ≡ 0)
  plus h =
      let l = lt_false x k0 a.whole zero_most.whole (rw h tt) in
      let z = (one_sided (one_zero x)).0 (omega (arith, zero_most.size)) in
      omega (arith, parts.0, parts.1, size_is x)

  pub low_minus : e < 87 → lt x k0 ≡ true → negsuc 0 ≡ tenfold_of (value x)
  low_minus h l = let m = minus l in let b = size_below 86 (omega arith) in floor_one (record { lo = omega arith; hi = omega arith }) (tenfold_floor (value x))

  pub low_plus : e < 87 → lt x k0 ≡ false → pos 0 ≡ tenfold_of (value x)
  low_plus h l = let m = plus l in let b = size_below 86 (omega arith) in floor_one (record { lo = omega arith; hi = omega arith }) (tenfold_floor (value x))

  whole_size : 87 ≤ e → magnitude x ≡ (0x80_0000 + t) * 2 ^ (e - 1)
  whole_size h = let s : e ≡ suc (e - 1) = omega arith in size ∙ ap (λ (k : ℕ). digits k t * 2 ^ (e - 1)) s

  pub high_plus : 87 ≤ e → lt x k0 ≡ false → shr_z (pos ((0x80_0000 + t) * 0x50_0000_0000)) (2 ^ (150 - e)) ≡ tenfold_of (value x)
  high_plus h l =
      let m = plus l in
      let k : 150 - e + (e - 1) ≡ 149 = omega (arith, exponent) in
      let F = shifted (0x80_0000 + t) 0 (e - 1) (150 - e) k (floor (pos ((0x80_0000 + t) * 0x50_0000_0000)) (pow_pos (150 - e))) in
      floor_one (moved _ _ (omega (arith, whole_size h)) F) (tenfold_floor (value x))

  pub high_minus : 87 ≤ e → lt x k0 ≡ true → shr_z (neg_ℤ (pos ((0x80_0000 + t) * 0x50_0000_0000))) (2 ^ (150 - e)) ≡ tenfold_of (value x)
  high_minus h l =
      let m = minus l in
      let k : 150 - e + (e - 1) ≡ 149 = omega (arith, exponent) in
      let s = (0x80_0000 + t) * 0x50_0000_0000 in
      let p = neg_parts (pos s) in
      let F = shifted 0 (0x80_0000 + t) (e - 1) (150 - e) k (moved _ _ (omega arith) (floor (neg_ℤ (pos s)) (pow_pos (150 - e)))) in
      floor_one (moved _ _ (omega (arith, whole_size h)) F) (tenfold_floor (value x))

  multiple : 114 ≤ e → magnitude x * 10 ≡ 5 * (digits e t * 2 ^ (e - 114)) * 2 ^ 114
  multiple h =
      let s : e - 1 ≡ e - 114 + 113 = omega arith in
      ap (λ (g : ℕ). g * 10) (size ∙ ap (λ (k : ℕ). digits e t * 2 ^ k) s ∙ ap (λ (k : ℕ). digits e t * k) (pow-add 2 (e - 114) 113)) ∙ five (digits e t) (2 ^ (e - 114)) (2 ^ 113)

  small : e < 114 → (above (value x) + below (value x)) * 10 ≤ 0x400_0000 * 2 ^ 114
  small h =
      let s : above (value x) + below (value x) ≡ magnitude x = omega (arith, parts.0, parts.1, size_is x) in
      rw s (small_ten (magnitude x) (2 ^ 136) (size_below 112 (omega arith)))

  exact : 114 ≤ e → above (value x) * 10 + below (tenfold_of (value x)) * 2 ^ 114 ≡ above (tenfold_of (value x)) * 2 ^ 114 + below (value x) * 10
  exact h =
      let k = 5 * (digits e t * 2 ^ (e - 114)) in
      let m = multiple h in
      let s = size_is x in
      elim (one_zero x) [
        | inl p ↦ let f = floor_exact 0 k (moved _ _ (omega (arith, parts.0, parts.1)) (tenfold_floor (value x))) in omega (arith, parts.0, parts.1)
        | inr p ↦ let f = floor_exact k 0 (moved _ _ (omega (arith, parts.0, parts.1)) (tenfold_floor (value x))) in omega (arith, parts.0, parts.1)
      ]

  pub grain : Grain (value x)
  grain = by_test {A = Bool} (λ z. Grain (value x)) (ltb e 114) {x = true} {y = true} (λ h. inr (small (ltb→lt e 114 h))) (λ h. inl (exact (nltb→le e 114 h)))

  pub few : Small (2 ^ 56) (tenfold_of (value x))
  few = more (tenfold_small (value x) limit (rw (parts.0, parts.1) a.size)) (lit≤ tt)
