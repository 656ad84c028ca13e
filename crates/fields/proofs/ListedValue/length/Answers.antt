-- As many bytes an item.
use mathlib.Core.Path.{sym}
use native.Mathlib.Omega.{arith}
use Rattle.wire.proofs.Items.{length_items}
use Rattle.fields.proofs.ListedValue.length.Goals as goal

pub overflow_mul-result : goal.overflow_mul-result
overflow_mul-result g c =
    let long = rw (← c.SIZE.ensures, ← c.count.ensures) at (length_items g.R.Item.Item.bytes g.R.Item.Item.SIZE g.met.R.Item.Item.sized (g.R.Row.list c.args.self.0)) in
    omega (arith, long, c.requires)

pub returns : goal.returns
returns g c = rw (c.SIZE.ensures, c.count.ensures) (sym (length_items g.R.Item.Item.bytes g.R.Item.Item.SIZE g.met.R.Item.Item.sized (g.R.Row.list c.args.self.0)))
