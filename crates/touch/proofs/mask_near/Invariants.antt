-- What the controls that are left make of `others` and `faces` is what all of them make.
use Rattle.std.proofs.Common.{◌≡◌, false, drop}
use mathlib.Core.List.{foldl}
use Rattle.touch.specs.Touch.{add_other_of, others_mask_of, nearer_of, nearest}
use Rattle.touch.proofs.mask_near.Given as goal

abbrev pub invariant-loop-c : goal.invariant-loop-c
invariant-loop-c l =
    (foldl (add_other_of l.x l.y) l.others (drop l.c-index l.c-items) ≡ others_mask_of l.x l.y l.c-items)
    × (foldl (nearer_of l.x l.y l.outside l.previous) l.faces.free (drop l.c-index l.c-items) ≡ nearest l.x l.y l.outside l.previous l.c-items)
    × (foldl (nearer_of l.x l.y false l.previous) l.faces.taken (drop l.c-index l.c-items) ≡ nearest l.x l.y false l.previous l.c-items)
