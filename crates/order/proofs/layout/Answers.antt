-- The widest picture, of what is written for an accepted order (`order_widest`).
use mathlib.Core.Path.{◌≡◌, sym}
use Rattle.prelude.specs.Answer.{accepted}
use Rattle.reader.specs.Order.{read_order_of}
use Rattle.written_layout.proofs.Owned.{layout_owned}
use Rattle.order.proofs.OrderLaws.{order_widest}
use Rattle.order.proofs.layout.Goals as goal

pub returns-clause-widest : goal.returns-clause-widest
returns-clause-widest c =
    let laid = c.settings_layout in
    let written = c.write_layout.ensures in
    let read : read_order_of c.args.order.now ≡ accepted c.in_ok-settings.settings = sym (rw c.in_ok-settings.was at c.read_order.ensures) in
    rw (written.answer, written.output, laid.ensures) (order_widest _ read (rw (← laid.ensures) (layout_owned _ _ laid.type_inv)) _)
