-- One part a turn.
use Rattle.std.proofs.Common.{arith}
use mathlib.Core.Path.{sym, ◌∙◌}
use mathlib.Core.List.{map}
use lib.ListN.{length-map, get_or-map}
use Rattle.prelude.proofs.Stores.{replaces}
use Rattle.layout.specs.Layout.{any_rect}
use Rattle.saved.specs.Saved.{part_of}
use Rattle.saved.proofs.capture_all.Goals as goal

pub loop-i-preserved : goal.loop-i-preserved
loop-i-preserved c =
    let loop = c.loop-i in
    let a = c.args in
    let f = part_of a.w a.h in
    let parts = length-map a.elements.now f in
    replaces (map f a.elements.now) a.saved.now (f any_rect) loop.invariant c.loop-i-test.true (omega arith) (omega arith) (c.part.ensures ∙ sym (get_or-map f a.elements.now loop.i any_rect))
