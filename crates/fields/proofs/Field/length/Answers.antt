-- A head's length, and the value's.
use native.Mathlib.Omega.{arith}
use Rattle.fields.proofs.Fields.{length_in}
use Rattle.fields.proofs.Field.length.Goals as goal

pub returns : goal.returns
returns g c =
    let long = length_in c.args.self.tag (g.V.Value.bytes c.args.self.value) c.if-self.false in
    (omega (arith, long, c.length.ensures), omega (arith, c.requires, c.length.ensures))
