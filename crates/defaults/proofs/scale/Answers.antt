-- One turn.
use Rattle.std.proofs.Common.{arith, slice_index_or}
use Rattle.std.proofs.lemmas.List.{get_or_default}
use Rattle.std.proofs.lemmas.List.Edits.{map_over_more}
use Rattle.layout.specs.Layout.{any_rect}
use Rattle.defaults.specs.Defaults.{scaled_rect_of}
use Rattle.defaults.proofs.scale.Goals as goal

pub loop-r-preserved : goal.loop-r-preserved
loop-r-preserved c =
    let l = c.loop-r in
    let x = slice_index_or l.elements l.r-index any_rect in
    let same = get_or_default l.elements l.r-index any_rect x (omega arith) in
    rw c.scaled_rect.ensures (map_over_more (scaled_rect_of c.args.requested c.args.full) _ _ _ x c.loop-r-test.true l.invariant same)
