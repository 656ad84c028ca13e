-- The faces, and each other element so far by itself.
use Rattle.std.proofs.Common.{◌≡◌, length, take}
use Rattle.std.specs.List.{fold}
use Rattle.prelude.specs.Lists.{range}
use mathlib.Core.List.{[], ◌∷◌}
use Rattle.cutouts.specs.Cutouts.{settle_of}
use Rattle.cutouts.proofs.Groups.{outside}
use Rattle.cutouts.proofs.avoid.Given as goal

abbrev pub invariant-loop-i : goal.invariant-loop-i
invariant-loop-i l = l.elements ≡ fold (settle_of l.w l.h l.holes) l.initial.elements (outside l.faces (λ i. i ∷ []) (take l.i-counter (range 0 (length l.fn.elements))))
