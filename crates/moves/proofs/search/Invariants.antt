-- The moves of the rectangles so far, and room for those that are left.
use Rattle.std.proofs.Common.{◌≡◌, ◌*◌, ◌≤◌, length, take}
use Rattle.moves.specs.Moves.{ordered_of, candidates_of}
use Rattle.moves.proofs.search.Given as goal

abbrev pub invariant-loop-r : goal.invariant-loop-r
invariant-loop-r l = (l.moves ≡ ordered_of (candidates_of (take l.r-index l.original) l.holes)) × (length l.moves ≤ 64 * l.r-index)
