-- After i turns the first i elements have what was saved for them.
use Rattle.std.proofs.Common.{◌≡◌, ◌++◌, take, drop}
use Rattle.saved.specs.Saved.{restored_of}
use Rattle.saved.proofs.restore_all.Given as goal

abbrev pub invariant-loop-i : goal.invariant-loop-i
invariant-loop-i l = l.elements ≡ restored_of l.w l.h l.saved (take l.i l.initial.elements) ++ drop l.i l.initial.elements
