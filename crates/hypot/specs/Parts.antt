-- What the parts of the code say to each other.
use Rattle.std.specs.Prelude.{ℕ, ◌+◌, ◌-◌, ◌*◌, ◌<◌, cond, T, ltb, Float}
use Rattle.std.specs.Float.{binary64}
use Rattle.std.specs.Float.Ieee.{of_bits, add, mul, lt}
use Rattle.hypot.specs.Hypot.{isqrt}

-- Twice the whole part of the root of m, and one more if the root is not whole.
abbrev pub root_of : ℕ → ℕ
root_of m = cond (ltb (isqrt m * isqrt m) m) (2 * isqrt m + 1) (2 * isqrt m)

abbrev pub f64_square_of : Float → Float
f64_square_of x = mul binary64 x x

-- The sum of the squares, rounded to f64.
abbrev pub sum_of_squares_of : Float → Float → Float
sum_of_squares_of a b = add binary64 (f64_square_of a) (f64_square_of b)

-- Halfway between an f32 and the next. p is the f32's pattern with the exponents of f64, which are 896 more; f64 has 29 digits more.
abbrev pub midpoint_of : ℕ → Float
midpoint_of p = of_bits binary64 ((2 * p + 1) * 0x1000_0000)

-- t lies strictly between the squares of the midpoints beside the f32 with the pattern p, which is above the least normal one.
pub record SurelyNearest (t : Float) (p : ℕ) : Type 0 where
  pub least : 0x1_c080_0000 < p
  pub most : p < 0x2_3f80_0000
  pub low : T (lt (f64_square_of (midpoint_of (p - 1))) t)
  pub high : T (lt t (f64_square_of (midpoint_of p)))
