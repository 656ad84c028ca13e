-- Turn by turn, what is left of the bytes gives the order's answer (`Left`): a turn ends in the refusal of its first fault, or reads a field and goes on.
use Rattle.std.proofs.Common.{arith}
use Rattle.std.proofs.lemmas.Result.{err_from_is_err_and}
use Rattle.prelude.specs.Answer.{must}
use Rattle.reader.proofs.Fields.{at_start, at_end, cut_header, old_tag, no_tag, cut_value, bad_value, next_field}
use Rattle.reader.proofs.read_order.Goals as goal

pub loop-rest-init : goal.loop-rest-init
loop-rest-init c = at_start _ c.absent-s.ensures

pub returns-then-tag-last : goal.returns-then-tag-last
returns-then-tag-last c = old_tag c.loop-rest.invariant c.in-len3-up.len_at_least c.if-tag-last.true

pub returns-in_err-field : goal.returns-in_err-field
returns-in_err-field c =
    let p = err_from_is_err_and c.from_residual.result c.from_residual.ensures.1 in
    rw (p.1, p.2) (no_tag c.loop-rest.invariant c.in-len3-up.len_at_least c.if-tag-last.false c.in_err-field.ensures)

pub returns-in_default-split_at_checked : goal.returns-in_default-split_at_checked
returns-in_default-split_at_checked c =
    cut_value c.loop-rest.invariant c.in-len3-up.len_at_least c.if-tag-last.false c.in_ok-field.ensures c.short.ensures.0 c.in_default-split_at_checked.ensures.cases

pub returns-in_err-s : goal.returns-in_err-s
returns-in_err-s c =
    let p = err_from_is_err_and c.from_residual-in_err-s.result c.from_residual-in_err-s.ensures.1 in
    rw (p.1, p.2) (bad_value c.loop-rest.invariant c.in-len3-up.len_at_least c.if-tag-last.false c.in_ok-field.ensures c.short.ensures.0 c.in-Some.ensures.cases c.in_err-s.ensures)

pub loop-rest-preserved : goal.loop-rest-preserved
loop-rest-preserved c =
    rw c.eq-screen.ensures (next_field c.loop-rest.invariant c.in-len3-up.len_at_least c.if-tag-last.false c.in_ok-field.ensures c.short.ensures.0 c.in-Some.ensures.cases c.in_ok-s.ensures)

pub returns-then-not-is_empty : goal.returns-then-not-is_empty
returns-then-not-is_empty c = cut_header c.loop-rest.invariant (grind arith) c.in_default.len_below

pub returns-then-not-screen : goal.returns-then-not-screen
unfolding must
returns-then-not-screen c = rw c.if-not-screen.true at (at_end c.loop-rest.invariant (grind arith))

pub returns : goal.returns
unfolding must
returns c = rw c.if-not-screen.false at (at_end c.loop-rest.invariant (grind arith))
