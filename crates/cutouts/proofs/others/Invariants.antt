-- Those outside the group among the elements so far.
use Rattle.std.proofs.Common.{◌≡◌, ◌≤◌, length, take, get_or}
use Rattle.prelude.specs.Lists.{range}
use Rattle.layout.specs.Layout.{any_rect}
use Rattle.cutouts.proofs.Groups.{outside}
use Rattle.cutouts.proofs.others.Given as goal

abbrev pub invariant-loop-i : goal.invariant-loop-i
invariant-loop-i l =
    (l.out.items ≡ outside l.group (λ i. get_or l.fn.elements i any_rect) (take l.i-counter (range 0 (length l.fn.elements)))) × (length l.out.items ≤ l.i-counter)
