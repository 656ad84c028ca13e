-- Bits: `b & (1 << i) != 0` tells whether bit i is set; of 0 none is, and of `a | b` those of both.
use mathlib.Core.Path.{◌≡◌, refl, ap, sym, ◌∙◌}
use mathlib.Core.Bool.{false, not, ◌||◌}
use Prim.Native.Nat.{ℕ, zero, suc, ◌*◌, ◌/◌, ◌%◌, ◌^◌, ◌<◌, max}
use native.Mathlib.Nat.{mod-lt, zero-mul, one-mul, zero-div, zero-max}
use native.Mathlib.Omega.{arith}
use borrow.Author.Tests.{ne_eqb}
use lib.Bits.{bit_and, bit_or, and_high, or_shr, or_step}
use lib.Dec.{eqb, lit<}
use lib.Pow.{high_ones, pow_pos}
use Rattle.prelude.specs.Bits.{has_bit}

and_bit : (b i : ℕ) → bit_and b (2 ^ i) ≡ b / 2 ^ i % 2 * 2 ^ i
and_bit b i = ap (bit_and b) (sym (high_ones 1 i ∙ one-mul (2 ^ i))) ∙ and_high b 1 i

digit : (x p : ℕ) → x < 2 → 0 < p → not (eqb (x * p) 0) ≡ eqb x 1
digit zero p h k = rw zero-mul
digit (suc zero) p h k = rw (one-mul, ne_eqb p 0 (λ e. omega arith))
digit (suc (suc x)) p h k = absurd (let z : ⊥ = omega arith in z)

pub test_bit : (b i : ℕ) → not (eqb (bit_and b (2 ^ i)) 0) ≡ has_bit b i
unfolding has_bit
test_bit b i = rw and_bit (digit (b / 2 ^ i % 2) (2 ^ i) (mod-lt (b / 2 ^ i) (lit< tt)) (pow_pos i))

pub no_bit : (i : ℕ) → has_bit 0 i ≡ false
unfolding has_bit
no_bit i = rw (zero-div (2 ^ i))

greater_digit : (x y : ℕ) → x < 2 → y < 2 → eqb (max x y) 1 ≡ (eqb x 1 || eqb y 1)
greater_digit zero y h k = rw (zero-max y)
greater_digit (suc zero) zero h k = refl
greater_digit (suc zero) (suc zero) h k = refl
greater_digit (suc zero) (suc (suc y)) h k = absurd (let z : ⊥ = omega arith in z)
greater_digit (suc (suc x)) y h k = absurd (let z : ⊥ = omega arith in z)

pub or_bit : (a b i : ℕ) → has_bit (bit_or a b) i ≡ (has_bit a i || has_bit b i)
unfolding has_bit
or_bit a b i =
    let e : bit_or a b / 2 ^ i % 2 ≡ max (a / 2 ^ i % 2) (b / 2 ^ i % 2) = rw (or_shr a b i) (omega (arith, or_step (a / 2 ^ i) (b / 2 ^ i))) in
    rw e (greater_digit _ _ (mod-lt (a / 2 ^ i) (lit< tt)) (mod-lt (b / 2 ^ i) (lit< tt)))
