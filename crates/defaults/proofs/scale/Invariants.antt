-- After i turns the first i rectangles are scaled.
use Rattle.std.proofs.Common.{◌≡◌, ◌++◌, take, drop}
use mathlib.Core.List.{map}
use Rattle.defaults.specs.Defaults.{scaled_rect_of}
use Rattle.defaults.proofs.scale.Given as goal

abbrev pub invariant-loop-r : goal.invariant-loop-r
invariant-loop-r l = l.elements ≡ map (scaled_rect_of l.requested l.full) (take l.r-index l.initial.elements) ++ drop l.r-index l.initial.elements
