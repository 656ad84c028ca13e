-- Either the output is too small and nothing is put, or the seven fields are put one after the other.
use mathlib.Core.Path.{◌≡◌, sym, ◌∙◌}
use mathlib.Core.List.{map}
use native.Mathlib.Omega.{arith}
use lib.ListN.{length, length-map}
use Rattle.settings.specs.Settings.{screen_picture_of}
use Rattle.wire.proofs.Output.{too_small, has_room}
use Rattle.order_writer.specs.OrderBytes.{writable_of, equal_of, all_fields}
use Rattle.order_writer.proofs.Made.{short_list, fields_length, fields_run}
use Rattle.order_writer.proofs.put_order.Goals as goal

pub length-requires-7 : goal.length-requires-7
length-requires-7 g c = let l = g.S.Row.list c.args.saved in short_list (map writable_of l) (omega (arith, c.requires, length-map l writable_of))

pub put-requires : goal.put-requires
put-requires g c =
    let l = g.S.Row.list c.args.saved in (
      short_list (map writable_of l) (omega (arith, c.requires, length-map l writable_of)),
      omega (
        arith,
        c.length.ensures.0,
        c.length-2.ensures.0,
        c.length-3.ensures.0,
        c.length-4.ensures.0,
        c.length-5.ensures.0,
        c.length-6.ensures.0,
        c.length-7.ensures.0,
        c.put-at.ensures.next,
        c.put-at-2.ensures.next,
        c.put-at-3.ensures.next,
        c.put-at-4.ensures.next,
        c.put-at-5.ensures.next,
        c.put-at-6.ensures.next,
      ),
    )

pub returns-then-out-length : goal.returns-then-out-length
unfolding equal_of
returns-then-out-length g c =
    let s = c.args.s in
    let cuts = g.C.Row.list c.args.cutouts in
    let list = g.S.Row.list c.args.saved in
    let picture = rw c.screen_picture.ensures at c.eq.ensures in
    let counted = c.count-2.ensures ∙ sym (length-map list writable_of) in
    let long =
    fields_length s cuts (map writable_of list) picture c.mode_byte-mode.ensures c.fit_byte-fit.ensures c.untouched.ensures c.count.ensures counted
    c.length.ensures.0 c.length-2.ensures.0 c.length-3.ensures.0 c.length-4.ensures.0 c.length-5.ensures.0 c.length-6.ensures.0 c.length-7.ensures.0 in
    let done = too_small (all_fields s cuts (map writable_of list)) c.args.out.now long c.if-out-length.true in
    record { answer = done.0; output = done.1 }

pub returns : goal.returns
unfolding equal_of
returns g c =
    let s = c.args.s in
    let cuts = g.C.Row.list c.args.cutouts in
    let list = g.S.Row.list c.args.saved in
    let picture = rw c.screen_picture.ensures at c.eq.ensures in
    let counted = c.count-2.ensures ∙ sym (length-map list writable_of) in
    let long =
    fields_length s cuts (map writable_of list) picture c.mode_byte-mode.ensures c.fit_byte-fit.ensures c.untouched.ensures c.count.ensures counted
    c.length.ensures.0 c.length-2.ensures.0 c.length-3.ensures.0 c.length-4.ensures.0 c.length-5.ensures.0 c.length-6.ensures.0 c.length-7.ensures.0 in
    let run =
    fields_run s cuts (map writable_of list) picture c.mode_byte-mode.ensures c.fit_byte-fit.ensures c.untouched.ensures c.count.ensures counted c.args.out.now
    c.put-at.ensures.next c.put-at.ensures.output c.put-at-2.ensures.next c.put-at-2.ensures.output c.put-at-3.ensures.next c.put-at-3.ensures.output
    c.put-at-4.ensures.next c.put-at-4.ensures.output c.put-at-5.ensures.next c.put-at-5.ensures.output c.put-at-6.ensures.next c.put-at-6.ensures.output
    c.put.ensures.next c.put.ensures.output in
    let done = has_room (all_fields s cuts (map writable_of list)) c.args.out.now long c.if-out-length.false run in
    record { answer = done.0; output = done.1 }
