-- As it is written.
use mathlib.Core.Path.{sym, ◌∙◌}
use native.Mathlib.Omega.{arith}
use lib.ListN.{length-map}
use Rattle.order_writer.specs.OrderBytes.{writable_of}
use Rattle.order_writer.proofs.NumbersLaws.{saved_at}
use Rattle.order_writer.proofs.SavedRow.get.Goals as goal

pub returns : goal.returns
returns g c =
    let l = g.R.Row.list c.args.self.0 in
    c.writable.ensures ∙ sym (saved_at l c.args.i _ (omega (arith, c.requires, length-map l writable_of)) c.get.ensures).1
