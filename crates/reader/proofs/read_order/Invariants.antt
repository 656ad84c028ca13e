use Rattle.std.proofs.Common.{length}
use Rattle.reader.proofs.Fields.{Left}
use Rattle.reader.proofs.read_order.Given as goal

abbrev pub invariant-loop-rest : goal.invariant-loop-rest
invariant-loop-rest l = Left l.bytes l.rest l.last l.screen l.s

abbrev pub decreases-loop-rest : goal.decreases-loop-rest
decreases-loop-rest l = length l.rest
