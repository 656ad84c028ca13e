-- The members so far are shifted.
use Rattle.std.proofs.Common.{◌≡◌, length, take}
use Rattle.cutouts.specs.Cutouts.{shift_by_of}
use Rattle.cutouts.proofs.shift.Given as goal

abbrev pub invariant-loop-i : goal.invariant-loop-i
invariant-loop-i l = (goal.iterator-loop-i).can_next l.i-iterator × (goal.iterator-loop-i).is_finite l.i-iterator
    × (l.elements ≡ shift_by_of l.initial.elements (take (length l.yielded) l.group) l.dx l.dy) × (length l.elements ≡ length l.initial.elements)
