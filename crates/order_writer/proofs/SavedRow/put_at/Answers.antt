-- As it is, where it is usable.
use mathlib.Core.Path.{◌≡◌, sym, ap, ◌∙◌}
use mathlib.Core.Bool.{true}
use native.Mathlib.Omega.{arith}
use lib.ListN.{length-map}
use Rattle.settings.specs.Settings.{usable_of}
use Rattle.order_writer.specs.OrderBytes.{writable_of}
use Rattle.order_writer.proofs.NumbersLaws.{saved_at}
use Rattle.order_writer.proofs.SavedRow.put_at.Goals as goal

pub returns-then-usable : goal.returns-then-usable
unfolding writable_of
returns-then-usable g c = λ x.
    let l = g.R.Row.list c.args.self.0 in
    let at = saved_at l c.args.i x (omega (arith, c.requires, length-map l writable_of)) c.get.ensures in
    let yes : usable_of c.get.result ≡ true = sym c.usable.ensures ∙ c.if-usable.true in
    rw (at.1, yes, ← at.0) (c.put_at.ensures x)
