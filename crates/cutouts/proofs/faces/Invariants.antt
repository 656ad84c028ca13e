-- The indices of the faces among the controls so far.
use Rattle.std.proofs.Common.{◌≡◌, take}
use Rattle.prelude.specs.Lists.{enumerate_from}
use Rattle.layout.specs.Layout.{control_list}
use Rattle.cutouts.proofs.Groups.{faces_of}
use Rattle.cutouts.proofs.faces.Given as goal

abbrev pub invariant-loop-i : goal.invariant-loop-i
invariant-loop-i l = l.out.items ≡ faces_of (take l.i (enumerate_from 1 (control_list l.fn.l)))
