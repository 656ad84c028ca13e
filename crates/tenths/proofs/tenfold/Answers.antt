-- `tenfold` is 0 or -1 below 2^-40, by the sign, and else the shifted product of the mantissa.
use mathlib.Core.Path.{◌∙◌}
use native.Mathlib.Nat.{le_of_lt}
use lib.Ieee.{binary32, to_bits}
use borrow.Author.Rules.{rules}
use Rattle.numerics.proofs.Operations.{whole_not_nan}
use Rattle.tenths.proofs.Machine.{product_fits, minus_fits, plus_shifted, minus_shifted}
use Rattle.tenths.proofs.Patterns.{exponent, low_minus, low_plus, high_minus, high_plus}
use Rattle.tenths.proofs.tenfold.Goals as goal

pub float_to_bits-n : goal.float_to_bits-n
float_to_bits-n c = whole_not_nan _ c.requires.whole

pub returns-then-x : goal.returns-then-x
returns-then-x c = low_minus c.args.x (search rules) c.requires c.if-exponent-lt87.true c.if-x.true

pub returns-then-exponent-lt87 : goal.returns-then-exponent-lt87
returns-then-exponent-lt87 c = low_plus c.args.x (search rules) c.requires c.if-exponent-lt87.true c.if-x.false

pub overflow_mul-size : goal.overflow_mul-size
overflow_mul-size c = product_fits (to_bits binary32 c.args.x)

pub overflow_sub-result : goal.overflow_sub-result
overflow_sub-result c = minus_fits (to_bits binary32 c.args.x)

pub overflow_sub-result-then-x-2 : goal.overflow_sub-result-then-x-2
overflow_sub-result-then-x-2 c = le_of_lt (exponent c.args.x (search rules) c.requires)

pub returns-then-x-2 : goal.returns-then-x-2
returns-then-x-2 c = minus_shifted (to_bits binary32 c.args.x) _ ∙ high_minus c.args.x (search rules) c.requires c.if-exponent-lt87.false c.if-x-2.true

pub overflow_sub-result-2 : goal.overflow_sub-result-2
overflow_sub-result-2 c = le_of_lt (exponent c.args.x (search rules) c.requires)

pub returns : goal.returns
returns c = plus_shifted (to_bits binary32 c.args.x) _ ∙ high_plus c.args.x (search rules) c.requires c.if-exponent-lt87.false c.if-x-2.false
