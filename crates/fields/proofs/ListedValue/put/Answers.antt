-- The loop puts one item a turn, each where the one before it ended.
use Prim.Native.Nat.{◌<◌}
use native.Mathlib.Omega.{arith}
use lib.ListN.{length}
use Rattle.fields.proofs.Rows.{any_of, begun, one_fits, puts, put_all}
use Rattle.fields.proofs.ListedValue.put.Goals as goal

pub loop-i-init : goal.loop-i-init
loop-i-init g c = begun g.R.Item.Item.bytes _ _ (g.R.Row.list c.args.self.0)

pub put_at-requires : goal.put_at-requires
put_at-requires g c =
    let fits = one_fits g.R.Item.Item.SIZE g.met.R.Item.Item.sized c.loop-i.invariant (omega (arith, c.count-i-end.ensures)) in
    (omega (arith, c.count-i-end.ensures), omega (arith, fits, c.requires, c.loop-i.invariant.same))

pub overflow_add-next : goal.overflow_add-next
overflow_add-next g c =
    let fits = one_fits g.R.Item.Item.SIZE g.met.R.Item.Item.sized c.loop-i.invariant (omega (arith, c.count-i-end.ensures)) in
    omega (arith, fits, c.requires, c.SIZE-next.ensures)

pub loop-i-preserved : goal.loop-i-preserved
loop-i-preserved g c =
    let inside : c.loop-i.i < length (g.R.Row.list c.args.self.0) = omega (arith, c.count-i-end.ensures) in
    let d = any_of (g.R.Row.list c.args.self.0) c.loop-i.i inside in
    rw c.SIZE-next.ensures (puts g.R.Item.Item.SIZE g.met.R.Item.Item.sized d c.loop-i.invariant inside (c.put_at.ensures d))

pub returns : goal.returns
returns g c = put_all c.loop-i.invariant (omega (arith, c.count-i-end.ensures))
