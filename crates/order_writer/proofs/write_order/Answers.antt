-- The first fault is the refusal; settings without one are accepted, and written.
use mathlib.Core.Path.{◌≡◌, sym, ap, ◌∙◌}
use Rattle.std.proofs.Common.{rules}
use Rattle.prelude.specs.Answer.{accepted}
use Rattle.settings.specs.Settings.{tested_of}
use Rattle.settings.proofs.Accepted.{tested_settings, few_settings}
use Rattle.order_writer.specs.OrderBytes.{write_order_of, order_output_of}
use Rattle.order_writer.proofs.Owned.{settings_fit}
use Rattle.order_writer.proofs.Replaced.{as_written}
use Rattle.order_writer.proofs.write_order.Goals as goal

pub returns-in_err-tested : goal.returns-in_err-tested
unfolding write_order_of order_output_of
returns-in_err-tested c =
    let e = c.in_err-tested.ensures in
    record { answer = rw (← e) (search rules); output = rw (← e) }

pub as_slice-requires : goal.as_slice-requires
as_slice-requires c = let s = c.args.s in (few_settings s (tested_settings 0 0 s (sym c.in_ok-tested.ensures)).1).1

pub saved_list-requires : goal.saved_list-requires
saved_list-requires c = let s = c.args.s in (few_settings s (tested_settings 0 0 s (sym c.in_ok-tested.ensures)).1).0

pub returns : goal.returns
unfolding write_order_of order_output_of
returns c =
    let s = c.args.s in
    let test = tested_settings 0 0 s (sym c.in_ok-tested.ensures) in
    let e : tested_of 0 0 s ≡ accepted s = sym c.in_ok-tested.ensures ∙ ap accepted test.0 in
    let bytes = as_written s (settings_fit s c.well_formed.0 test.1) in
    let done = rw (c.as_slice.ensures, c.saved_list.ensures, ← bytes) at c.put_order.ensures in
    record { answer = rw e done.answer; output = rw e done.output }
