-- `contains` compares by `partial_cmp`, the definition by `<=`.
use Rattle.std.proofs.Common.{◌≡◌, Float, arith}
use Rattle.std.specs.Float.Ieee.{le}
use Rattle.std.specs.Ordering.{partial_le, float_partial_cmp}
use Rattle.settings.specs.Settings.{in_limits_of}
use Rattle.settings.proofs.in_limits.Goals as goal

at_most : (x y : Float) → partial_le float_partial_cmp x y ≡ le x y
unfolding le
at_most x y = grind arith

pub returns : goal.returns
unfolding in_limits_of
returns c = grind (arith, at_most)
