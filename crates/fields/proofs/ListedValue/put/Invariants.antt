use Rattle.fields.proofs.Rows.{Putting}
use Rattle.fields.proofs.ListedValue.put.Given as goal

abbrev pub invariant-loop-i : goal.invariant-loop-i
invariant-loop-i g l = Putting g.R.Item.Item.bytes l.initial.out l.at (g.R.Row.list l.self.0) l.out l.next l.i
