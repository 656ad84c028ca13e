-- Left out, or a head and behind it the value.
use native.Mathlib.Omega.{arith}
use Rattle.fields.proofs.Fields.{length_in, left_out, put_in}
use Rattle.fields.proofs.Field.put.Goals as goal

pub returns-then-self-clause-output : goal.returns-then-self-clause-output
returns-then-self-clause-output g c = let f = c.args.self in left_out f.tag (g.V.Value.bytes f.value) c.args.out.now c.args.at c.if-self.true

pub put_field_head-requires : goal.put_field_head-requires
put_field_head-requires g c =
    let f = c.args.self in
    let long = length_in f.tag (g.V.Value.bytes f.value) c.if-self.false in
    (omega (arith, c.requires, c.length-n.ensures), omega (arith, long, c.requires))

pub put-requires : goal.put-requires
put-requires g c = let f = c.args.self in omega (arith, length_in f.tag (g.V.Value.bytes f.value) c.if-self.false, c.requires)

pub returns-clause-next : goal.returns-clause-next
returns-clause-next g c = let f = c.args.self in omega (arith, length_in f.tag (g.V.Value.bytes f.value) c.if-self.false, c.length-n.ensures)

pub returns-clause-output : goal.returns-clause-output
returns-clause-output g c =
    let f = c.args.self in
    put_in f.tag (g.V.Value.bytes f.value) c.args.out.now c.args.at c.if-self.false (rw c.length-n.ensures at c.put_field_head.ensures) c.put.ensures
