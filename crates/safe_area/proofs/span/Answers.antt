-- `span`: the numbers are on the scale, so that no difference and no cast leaves its range.
use native.Mathlib.Omega.{arith}
use Rattle.std.proofs.lemmas.Int.{ints, clamps}
use Rattle.prelude.proofs.Signed.{read_back}
use Rattle.safe_area.proofs.Scale.{small, cast_small, spanned}
use Rattle.safe_area.proofs.span.Goals as goal

pub overflow_sub-whole-2 : goal.overflow_sub-whole-2
overflow_sub-whole-2 c = omega (arith, ints, clamps, small _ c.requires.0, small _ c.requires.1, small _ c.requires.2)

pub int_to_float-result : goal.int_to_float-result
int_to_float-result c =
    let r = c.requires in
    cast_small c.clamp-start.result (spanned r.0 r.1 r.2 c.max.ensures.value c.clamp-start.ensures.value c.max-2.ensures.value c.max-extent.ensures.value).start_small

pub int_to_float-result-2 : goal.int_to_float-result-2
int_to_float-result-2 c =
    let r = c.requires in
    cast_small c.max-extent.result (spanned r.0 r.1 r.2 c.max.ensures.value c.clamp-start.ensures.value c.max-2.ensures.value c.max-extent.ensures.value).extent_small

pub returns : goal.returns
returns c =
    let r = c.requires in
    let s = spanned r.0 r.1 r.2 c.max.ensures.value c.clamp-start.ensures.value c.max-2.ensures.value c.max-extent.ensures.value in
    rw (read_back c.clamp-start.type_inv s.start_is, read_back c.max-extent.type_inv s.extent_is)
