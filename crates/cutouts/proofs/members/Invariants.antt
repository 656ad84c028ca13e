-- The rectangles at the indices so far.
use Rattle.std.proofs.Common.{◌≡◌, length, take}
use Rattle.cutouts.specs.Cutouts.{members_of}
use Rattle.cutouts.proofs.members.Given as goal

abbrev pub invariant-loop-i : goal.invariant-loop-i
invariant-loop-i l = (l.out.items ≡ members_of l.elements (take l.i-index l.group)) × (length l.out.items ≡ l.i-index)
