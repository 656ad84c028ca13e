-- Exact tenths. A whole number v counts units of 2^-149, as `value` gives them.
use Rattle.std.specs.Prelude.{◌^◌, ℤ, pos, ◌+ℤ◌, ◌-ℤ◌, ◌*ℤ◌}
use Rattle.std.specs.Int.Signed.{shr_z}

-- The nearest whole number to ten times v, halves upward: 10 v + 1/2 rounded down, as `shr_z` does.
unfoldable pub tenths_of : ℤ → ℤ
tenths_of v = shr_z (v *ℤ pos 10 +ℤ pos (2 ^ 148)) (2 ^ 149)

-- from x to x + w: the difference of the two edges, each rounded
unfoldable pub span_of : ℤ → ℤ → ℤ
span_of x w = tenths_of (x +ℤ w) -ℤ tenths_of x

-- ten times v in whole numbers of 2^-35, rounded down
unfoldable pub tenfold_of : ℤ → ℤ
tenfold_of v = shr_z (v *ℤ pos 10) (2 ^ 114)
