-- One cutout more, if it reaches into a rail.
use mathlib.Core.List.{foldl-append}
use mathlib.Core.Path.{refl, ◌∙◌}
use Rattle.prelude.proofs.Loops.{one_more, no_more}
use Rattle.layout.specs.Layout.{any_rect}
use Rattle.camera_rails.specs.CameraRails.{in_rail_of, camera_top_of}
use Rattle.camera_rails.proofs.camera_top.Goals as goal
use Rattle.camera_rails.proofs.camera_top.Goals.{then-in_rail, else-in_rail}

pub loop-c-init : goal.loop-c-init
unfolding camera_top_of
loop-c-init c = refl

pub loop-c-preserved : goal.loop-c-preserved
unfolding camera_top_of
loop-c-preserved c =
    let s = c.args in
    let l = c.loop-c in
    let h = c.loop-c-test.true in
    elim c.if-in_rail.branch [
      | then-in_rail w ↦ w.top-is ∙ w.min-top.ensures ∙ rw (one_more (in_rail_of s.w s.rail) (λ r. r.y) s.cutouts.now l.c-index any_rect h c.in_rail.ensures w.if-in_rail.true, foldl-append, ← l.invariant)
      | else-in_rail w ↦ w.top-is ∙ rw (no_more (in_rail_of s.w s.rail) (λ r. r.y) s.cutouts.now l.c-index any_rect h c.in_rail.ensures w.if-in_rail.false) l.invariant
    ]
