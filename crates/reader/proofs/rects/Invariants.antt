-- After i turns the value's first i rectangles stand in front.
use Rattle.std.proofs.Common.{◌≡◌, ◌++◌, drop}
use Rattle.prelude.specs.Lists.{tabulate}
use Rattle.wire.specs.Wire.{rect_at_of}
use Rattle.reader.proofs.rects.Given as goal

abbrev pub invariant-loop-i : goal.invariant-loop-i
invariant-loop-i g l = l.r-items ≡ tabulate (rect_at_of l.value) l.i ++ drop l.i l.initial.r-items
