-- The first fault is that of the fields, or of the lists; else the settings are written with the lists as they are lent.
use mathlib.Core.Path.{◌≡◌, sym, ◌∙◌}
use mathlib.Core.Bool.{true, false}
use Prim.Native.Nat.{◌/◌}
use native.Mathlib.Omega.{arith}
use borrow.Author.Tests.{lt-leb, le-leb}
use lib.Dec.{leb}
use lib.ListN.{length}
use Rattle.std.proofs.Common.{rules}
use Rattle.prelude.specs.Answer.{must}
use Rattle.order_writer.proofs.NumbersLaws.{length_rects}
use Rattle.order_writer.proofs.FromNumbers.{lists_tested, numbers_written}
use Rattle.order_writer.proofs.write_numbers.Goals as goal

pub returns-in_err-tested : goal.returns-in_err-tested
returns-in_err-tested c =
    let a = c.args in
    let e = rw c.settings_from-s.ensures at c.in_err-tested.ensures in
    let tested = lists_tested a.numbers.now a.mode a.fit a.cutouts.now a.saved.now in
    record { answer = rw (tested, ← e) (search rules); output = rw (tested, ← e) }

pub returns-then-count-gt16 : goal.returns-then-count-gt16
unfolding must
returns-then-count-gt16 c =
    let a = c.args in
    let e = rw c.settings_from-s.ensures at c.in_ok-tested.ensures in
    let tested = lists_tested a.numbers.now a.mode a.fit a.cutouts.now a.saved.now in
    let many = lt-leb (length a.cutouts.now / 4) 16 (omega (arith, c.count.ensures, length_rects a.cutouts.now)) in
    record { answer = rw (tested, ← e, many); output = rw (tested, ← e, many) }

pub returns-then-not-rects_in_limits : goal.returns-then-not-rects_in_limits
unfolding must
returns-then-not-rects_in_limits c =
    let a = c.args in
    let e = rw c.settings_from-s.ensures at c.in_ok-tested.ensures in
    let tested = lists_tested a.numbers.now a.mode a.fit a.cutouts.now a.saved.now in
    let few = le-leb (length a.cutouts.now / 4) 16 (omega (arith, c.count.ensures, length_rects a.cutouts.now)) in
    let off = sym c.rects_in_limits.ensures ∙ c.if-not-rects_in_limits.true in
    record { answer = rw (tested, ← e, few, off); output = rw (tested, ← e, few, off) }

pub returns-then-count-gt32 : goal.returns-then-count-gt32
unfolding must
returns-then-count-gt32 c =
    let a = c.args in
    let e = rw c.settings_from-s.ensures at c.in_ok-tested.ensures in
    let tested = lists_tested a.numbers.now a.mode a.fit a.cutouts.now a.saved.now in
    let few = le-leb (length a.cutouts.now / 4) 16 (omega (arith, c.count.ensures, length_rects a.cutouts.now)) in
    let within = sym c.rects_in_limits.ensures ∙ c.if-not-rects_in_limits.false in
    let many = lt-leb (length a.saved.now / 4) 32 (omega (arith, c.count-2.ensures, length_rects a.saved.now)) in
    record { answer = rw (tested, ← e, few, within, many); output = rw (tested, ← e, few, within, many) }

pub returns : goal.returns
unfolding must
returns c =
    let a = c.args in
    let e = rw c.settings_from-s.ensures at c.in_ok-tested.ensures in
    let tested = lists_tested a.numbers.now a.mode a.fit a.cutouts.now a.saved.now in
    let few = le-leb (length a.cutouts.now / 4) 16 (omega (arith, c.count.ensures, length_rects a.cutouts.now)) in
    let within = sym c.rects_in_limits.ensures ∙ c.if-not-rects_in_limits.false in
    let most = le-leb (length a.saved.now / 4) 32 (omega (arith, c.count-2.ensures, length_rects a.saved.now)) in
    let bytes = numbers_written a.numbers.now a.mode a.fit a.cutouts.now a.saved.now in
    let done = rw (c.settings_from-s.ensures, ← bytes) at c.put_order.ensures in
    record { answer = rw (tested, ← e, few, within, most) done.answer; output = rw (tested, ← e, few, within, most) done.output }
