-- After i turns the first i places hold parts of the screen.
use mathlib.Core.List.{map}
use Rattle.std.proofs.Common.{length}
use Rattle.prelude.specs.Lists.{replace_first}
use Rattle.prelude.proofs.Loops.{Done}
use Rattle.saved.specs.Saved.{part_of}
use Rattle.saved.proofs.capture_all.Given as goal

abbrev pub invariant-loop-i : goal.invariant-loop-i
invariant-loop-i l = Done (λ j. replace_first j (map (part_of l.w l.h) l.elements) l.initial.saved) (length l.elements) (length l.initial.saved) l.saved l.i
