-- The loop stops at the first rectangle off its limits; else all are within.
use mathlib.Core.Path.{refl}
use Prim.Native.Nat.{◌<◌}
use native.Mathlib.Omega.{arith}
use lib.ListN.{length}
use Rattle.std.specs.List.{list_all}
use Rattle.prelude.proofs.Loops.{rest_all, stops, goes_on, runs_out}
use Rattle.settings.specs.Settings.{least, rect_in_limits_of}
use Rattle.order_writer.proofs.rects_in_limits.Goals as goal

pub loop-i-init : goal.loop-i-init
loop-i-init g c = rest_all (list_all (rect_in_limits_of least)) _ _ refl

pub returns-then-not-rect_in_limits : goal.returns-then-not-rect_in_limits
returns-then-not-rect_in_limits g c =
    let inside : c.loop-i.i < length (g.R.Row.list c.args.rects) = omega (arith, c.count-i-end.ensures) in
    stops c.get.result c.loop-i.invariant inside
    (rw (← c.get.ensures, ← c.rect_in_limits.ensures, c.if-not-rect_in_limits.true))

pub loop-i-preserved : goal.loop-i-preserved
loop-i-preserved g c =
    let inside : c.loop-i.i < length (g.R.Row.list c.args.rects) = omega (arith, c.count-i-end.ensures) in
    goes_on c.get.result c.loop-i.invariant inside
    (rw (← c.get.ensures, ← c.rect_in_limits.ensures, c.if-not-rect_in_limits.false))

pub returns : goal.returns
returns g c = runs_out c.loop-i.invariant (omega (arith, c.count-i-end.ensures))
