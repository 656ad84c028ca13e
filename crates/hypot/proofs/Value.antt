-- The value of a pattern: it grows with the pattern, and t * 2 ^ k units have the pattern k * 2 ^ 23 + t.
use mathlib.Core.Path.{◌≡◌, sym, ap, ◌∙◌}
use mathlib.Core.Logic.{◌⊎◌, inl, inr}
use Prim.Native.Nat.{ℕ, suc, ◌+◌, ◌*◌, ◌^◌, ◌≤◌, ◌<◌}
use native.Mathlib.Nat.{le_trans, le_of_eq, le_of_lt, lt_of_lt_of_le, lt_of_not-le, not-le_of_lt, eq-or-lt_of_le, mul-le-mul, mul-lt-mul_of_pos_right, pow-succ'}
use native.Mathlib.Omega.{arith}
use lib.Pow.{pow_pos, pow_mono}
use Rattle.hypot.specs.Pattern.{exponent_of, significand_of, pattern_value}

pub significand_lt : (p : ℕ) → significand_of p < 0x100_0000
significand_lt p = omega arith

-- a carry out of the 24 digits
carried : (k : ℕ) → 0x80_0000 * 2 ^ suc k ≡ 0x100_0000 * 2 ^ k
carried k = omega (arith, pow-succ' 2 k)

pub value_lt : {p q : ℕ} → p < q → pattern_value p < pattern_value q
value_lt {p} {q} h = elim (eq-or-lt_of_le {n = exponent_of p} {m = exponent_of q} (omega arith)) [
  | inl e ↦ rw (← e) (mul-lt-mul_of_pos_right (omega arith) (pow_pos (exponent_of p)))
  | inr g ↦
      lt_of_lt_of_le (mul-lt-mul_of_pos_right (significand_lt p) (pow_pos (exponent_of p)))
      (le_trans (le_of_eq (sym (carried (exponent_of p)))) (mul-le-mul (omega arith) (pow_mono g)))
]

pub value_le : {p q : ℕ} → p ≤ q → pattern_value p ≤ pattern_value q
value_le {p} {q} h = elim (eq-or-lt_of_le h) [ inl e ↦ le_of_eq (ap pattern_value e) | inr g ↦ le_of_lt (value_lt g) ]

pub pattern_lt : {p q : ℕ} → pattern_value p < pattern_value q → p < q
pattern_lt {p} {q} h = lt_of_not-le (λ (g : q ≤ p). not-le_of_lt h (value_le g))

parts : (p k t : ℕ) → exponent_of p ≡ k → significand_of p ≡ t → pattern_value p ≡ t * 2 ^ k
parts p k t e s = rw (s, e)

pub value_at : (k t : ℕ) → t ≤ 0x100_0000 → (k ≡ 0) ⊎ (0x80_0000 ≤ t) → pattern_value (k * 0x80_0000 + t) ≡ t * 2 ^ k
value_at k t h l = elim (eq-or-lt_of_le h) [
  | inl e ↦ parts (k * 0x80_0000 + t) (suc k) 0x80_0000 (omega arith) (omega arith) ∙ rw e (carried k)
  | inr g ↦ elim l [
    | inl z ↦ parts (k * 0x80_0000 + t) k t (omega arith) (omega arith)
    | inr z ↦ parts (k * 0x80_0000 + t) k t (omega arith) (omega arith)
  ]
]
