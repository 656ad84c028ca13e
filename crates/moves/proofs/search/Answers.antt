-- One rectangle more: its moves off each hole.
use native.Mathlib.Omega.{arith}
use mathlib.Core.List.{[]}
use mathlib.Core.Path.{ap, ◌∙◌}
use lib.Ieee.{nan}
use lib.Seq.{take_all}
use Rattle.std.specs.List.{flat_map}
use Rattle.geometry.specs.Rect.{new_of}
use Rattle.moves.specs.Moves.{insert_of, moves_off, candidates_of, ordered_of, search_of, first_clear_of}
use Rattle.moves.proofs.Inserts.{joined_more}
use Rattle.moves.proofs.search.Goals as goal

pub loop-r-init : goal.loop-r-init
unfolding candidates_of ordered_of
loop-r-init c = (c.new-moves.ensures, rw c.new-moves.ensures (omega arith))

pub loop-r-preserved : goal.loop-r-preserved
unfolding candidates_of ordered_of
loop-r-preserved c =
    let l = c.loop-r in
    let more = joined_more insert_of (λ r. flat_map (moves_off r) c.args.holes.now) [] c.args.original.now l.r-index (new_of nan nan nan nan) c.loop-r-test.true in
    (rw (more, ← l.invariant.0) c.insert_off.ensures.0, omega (arith, c.insert_off.ensures.1))

pub returns : goal.returns
unfolding candidates_of ordered_of search_of
returns c = c.first_clear.ensures ∙ ap (first_clear_of _ _ _ _ _) (c.loop-r.invariant.0 ∙ ap (λ rs. ordered_of (candidates_of rs c.args.holes.now)) (take_all _ c.args.original.now (omega arith)))
