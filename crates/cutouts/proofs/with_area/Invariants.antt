-- Those with an area among the cutouts so far.
use Rattle.std.proofs.Common.{◌≡◌, ◌≤◌, length, take}
use Rattle.prelude.specs.Lists.{retain}
use Rattle.cutouts.specs.Cutouts.{has_area_of}
use Rattle.cutouts.proofs.with_area.Given as goal

abbrev pub invariant-loop-c : goal.invariant-loop-c
invariant-loop-c l = (l.out.items ≡ retain has_area_of (take l.c-index l.cutouts)) × (length l.out.items ≤ l.c-index)
