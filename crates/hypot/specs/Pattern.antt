-- The bit patterns of f32 without their sign, and their values as whole numbers of 2 ^ -149.
use Rattle.std.specs.Prelude.{ℕ, ◌-◌, ◌*◌, ◌/◌, ◌%◌, ◌^◌, min, Float}
use Rattle.std.specs.Float.{binary32}
use Rattle.std.specs.Float.Ieee.{of_bits, to_bits}

abbrev pub unsigned_pattern_of : Float → ℕ
unsigned_pattern_of x = to_bits binary32 x % 0x8000_0000

-- The pattern p is significand * 2 ^ exponent units of 2 ^ -149. One rule for subnormal and normal numbers: the exponent is one less than the
-- biased one, or 0, and the leading digit of a normal number stays in p when the exponent is taken out.
abbrev pub exponent_of : ℕ → ℕ
exponent_of p = p / 0x80_0000 - 1

abbrev pub significand_of : ℕ → ℕ
significand_of p = p - exponent_of p * 0x80_0000

abbrev pub pattern_value : ℕ → ℕ
pattern_value p = significand_of p * 2 ^ exponent_of p

-- The f32 with the pattern p. From the infinity's pattern on, where `pattern_value` goes on as if exponents had no limit, it is the infinity.
abbrev pub f32_at : ℕ → Float
f32_at p = of_bits binary32 (min p 0x7f80_0000)
