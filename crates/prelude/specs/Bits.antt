-- The bits of a number.
use Rattle.std.specs.Prelude.{Bool, ℕ, ◌/◌, ◌%◌, ◌^◌, eqb}

-- whether bit i of b is set
unfoldable pub has_bit : ℕ → ℕ → Bool
has_bit b i = eqb (b / 2 ^ i % 2) 1
