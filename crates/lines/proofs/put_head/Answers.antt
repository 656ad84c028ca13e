-- `put_head` puts the word, the digits and a line feed one after the other; there is room for all of them.
use native.Mathlib.Omega.{arith}
use Rattle.lines.specs.Line.{head_text}
use Rattle.lines.proofs.LineLaws.{length_head}
use Rattle.lines.proofs.Puts.{one, put_after, put_ends, put_length}
use Rattle.lines.proofs.put_head.Goals as goal

pub put_text-number-requires : goal.put_text-number-requires
put_text-number-requires c = omega (arith, rw length_head at c.requires)

pub put_digits-end-requires : goal.put_digits-end-requires
put_digits-end-requires c = omega (arith, put_ends, put_length, rw length_head at c.requires)

pub bounds-out-end : goal.bounds-out-end
bounds-out-end c = omega (arith, put_ends, put_length, rw length_head at c.requires)

pub overflow_add-result : goal.overflow_add-result
overflow_add-result c = omega (arith, put_ends, rw length_head at c.requires)

pub returns : goal.returns
unfolding head_text
returns c = put_after _ _ _ _ c.put_text-number.ensures (put_after _ _ _ _ c.put_digits-end.ensures (one _ _ 10))
