-- `put_field` puts a blank, and the number from the next place on.
use lib.ListN.{length-set}
use native.Mathlib.Omega.{arith}
use mir.Syntax.{w32}
use Rattle.std.proofs.lemmas.Int.{to_z-of_z}
use Rattle.lines.specs.Line.{field_text}
use Rattle.lines.proofs.Puts.{one, put_after}
use Rattle.lines.proofs.put_field.Goals as goal

pub bounds-out-at : goal.bounds-out-at
unfolding field_text
bounds-out-at c = omega arith

pub put_number-requires : goal.put_number-requires
unfolding field_text
put_number-requires c = rw (to_z-of_z w32 c.args.n c.ranges.n) (simp length-set (omega arith))

pub returns : goal.returns
unfolding field_text
returns c = put_after _ _ _ _ (one _ _ 32) (rw (to_z-of_z w32 c.args.n c.ranges.n) at c.put_number.ensures)
