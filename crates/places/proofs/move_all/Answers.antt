-- One turn, for a function that computes what `place` gives.
use Rattle.std.proofs.Common.{arith, slice_index_or}
use Rattle.std.proofs.lemmas.List.{get_or_default}
use Rattle.std.proofs.lemmas.List.Edits.{map_over_more}
use Rattle.layout.specs.Layout.{with_bounds, any_control}
use Rattle.places.proofs.move_all.Goals as goal

pub loop-c-preserved : goal.loop-c-preserved
loop-c-preserved g c = λ h p.
    let l = c.loop-c in
    let x = slice_index_or l.controls l.c-index any_control in
    let same = get_or_default l.controls l.c-index any_control x (omega arith) in
    rw (p _ _ c.place-c.ensures) (map_over_more (λ c. with_bounds c (h c)) _ _ _ x c.loop-c-test.true (l.invariant h p) same)
