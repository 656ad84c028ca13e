-- Ranges of f32 values, in 256ths and counted from -2^17, so that all ends are natural numbers and compute.
use Rattle.std.specs.Prelude.{ℕ, ◌+◌, ◌-◌, ◌*◌, ◌≤◌, max, Float}
use Rattle.numerics.specs.Value.{Whole, pos_part, neg_part, eps, limit}

-- the whole number n as an end of a range, and the number -n
abbrev pub at : ℕ → ℕ
at n = limit + 256 * n

abbrev pub minus : ℕ → ℕ
minus n = limit - 256 * n

-- x is finite and lies from a to b: `In x (minus 16) (at 8192)` says -16 ≤ x ≤ 8192
pub record In (x : Float) (a b : ℕ) : Type 0 where
  pub whole : Whole x
  pub lo : eps * a + neg_part x ≤ pos_part x + eps * limit
  pub hi : pos_part x + eps * limit ≤ neg_part x + eps * b

-- how far a range goes from zero, in 256ths
abbrev pub reach : ℕ → ℕ → ℕ
reach a b = max (limit - a) (b - limit)
