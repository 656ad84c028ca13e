-- One hole more: its moves, if r overlaps it.
use native.Mathlib.Omega.{arith}
use mathlib.Core.Path.{◌∙◌}
use lib.Ieee.{nan}
use Rattle.geometry.specs.Rect.{new_of}
use Rattle.moves.specs.Moves.{insert_of, moves_off}
use Rattle.moves.proofs.Inserts.{joined_more}
use Rattle.moves.proofs.Candidates.insert_off.Goals.{then-overlaps, else-overlaps}
use Rattle.moves.proofs.Candidates.insert_off.Goals as goal

pub loop-c-preserved : goal.loop-c-preserved
unfolding moves_off
loop-c-preserved c =
    let l = c.loop-c in
    let more = joined_more insert_of (moves_off c.args.r) c.args.self.now c.args.holes.now l.c-index (new_of nan nan nan nan) c.loop-c-test.true in
    elim c.if-overlaps.branch [
      | then-overlaps w ↦ (rw (more, ← c.overlaps.ensures, w.if-overlaps.true, ← l.invariant.0) (w.self-is ∙ w.insert_away.ensures.0), rw w.self-is (omega (arith, w.insert_away.ensures.1)))
      | else-overlaps w ↦ (rw (more, ← c.overlaps.ensures, w.if-overlaps.false, ← l.invariant.0) w.self-is, rw w.self-is (omega arith))
    ]
