-- `set_bounds`: the controls passed have their new rectangles.
use mathlib.Core.List.{zip_with}
use lib.ListN.{drop}
use Rattle.prelude.specs.Lists.{replace_first}
use Rattle.prelude.proofs.Loops.{Done}
use Rattle.layout.specs.Layout.{with_bounds}
use Rattle.layout.proofs.set_bounds.Given as goal

abbrev pub invariant-loop-i : goal.invariant-loop-i
invariant-loop-i l = Done (λ j. replace_first j (zip_with with_bounds l.controls (drop 1 l.fn.rects)) l.controls) l.n 12 l.out l.i
