-- One cutout more, if it has an area.
use native.Mathlib.Omega.{arith}
use Rattle.prelude.proofs.Loops.{one_more, no_more}
use Rattle.layout.specs.Layout.{any_rect}
use Rattle.cutouts.specs.Cutouts.{has_area_of}
use Rattle.cutouts.proofs.with_area.Goals.{then-has_area, else-has_area}
use Rattle.cutouts.proofs.with_area.Goals as goal

pub loop-c-preserved : goal.loop-c-preserved
loop-c-preserved c =
    let l = c.loop-c in
    let h = c.loop-c-test.true in
    elim c.if-has_area.branch [
      | then-has_area w ↦ (rw (w.out-is, w.push.ensures.items, one_more has_area_of (λ x. x) c.args.cutouts.now l.c-index any_rect h c.has_area.ensures w.if-has_area.true, ← l.invariant.0), rw w.out-is (omega (arith, w.push.ensures.len)))
      | else-has_area w ↦ (rw (w.out-is, no_more has_area_of (λ x. x) c.args.cutouts.now l.c-index any_rect h c.has_area.ensures w.if-has_area.false) l.invariant.0, rw w.out-is (omega arith))
    ]
