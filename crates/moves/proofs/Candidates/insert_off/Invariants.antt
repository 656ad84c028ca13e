-- The moves off the holes so far, and room for those that are left.
use Rattle.std.proofs.Common.{◌≡◌, ◌+◌, ◌*◌, ◌≤◌, length, take}
use Rattle.std.specs.List.{fold, flat_map}
use Rattle.moves.specs.Moves.{insert_of, moves_off}
use Rattle.moves.proofs.Candidates.insert_off.Given as goal

abbrev pub invariant-loop-c : goal.invariant-loop-c
invariant-loop-c l = (l.self ≡ fold insert_of l.initial.self (flat_map (moves_off l.r) (take l.c-index l.holes)))
    × (length l.self ≤ length l.initial.self + 4 * l.c-index)
