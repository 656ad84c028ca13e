-- Each of the three arrays is opened at the place of the new length.
use lib.ListN.{length}
use mathlib.Core.Path.{ap}
use native.Mathlib.Omega.{arith}
use Rattle.moves.proofs.Inserts.{moves_count, moves_inserted, lengths_inserted}
use Rattle.moves.proofs.Candidates.insert.Goals as goal

pub invariant_of-self : goal.invariant_of-self
invariant_of-self c =
    let s = c.self.inside in (
      omega (arith, ap length c.self.view_is, moves_count s.dxs s.dys s.count (omega arith) (omega arith)),
      lengths_inserted s.dxs s.dys s.lens _ _ _ s.count _ c.args.dx c.args.dy (omega arith) (omega arith) c.self.view_is c.slot-at.ensures.0 c.insert_at.ensures c.insert_at-2.ensures c.insert_at-3.ensures c.self.invariant.1,
    )

pub returns : goal.returns
returns c =
    let s = c.self.inside in
    moves_inserted s.dxs s.dys s.lens _ _ c.insert_at-3.new.a s.count _ c.args.dx c.args.dy (omega arith) (omega arith) c.self.view_is c.slot-at.ensures.0 c.insert_at.ensures c.insert_at-2.ensures
