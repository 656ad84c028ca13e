-- One element more, if it is outside the group.
use native.Mathlib.Omega.{arith}
use lib.ListN.{length, get_or}
use mathlib.Core.Path.{◌∙◌}
use Rattle.layout.specs.Layout.{any_rect}
use Rattle.cutouts.proofs.Groups.{outside_one, outside_none, outside_all}
use Rattle.cutouts.proofs.others.Goals.{then-not-contains, else-not-contains}
use Rattle.cutouts.proofs.others.Goals as goal

pub loop-i-preserved : goal.loop-i-preserved
loop-i-preserved c =
    let l = c.loop-i in
    let h = c.loop-i-test.true in
    let es = c.args.elements.now in
    elim c.if-not-contains.branch [
      | then-not-contains w ↦ (rw (w.out-is, w.push.ensures.items, outside_one c.args.group.now (λ i. get_or es i any_rect) (length es) l.i-counter h c.contains.ensures.value w.if-not-contains.true, ← l.invariant.0), rw w.out-is (omega (arith, w.push.ensures.len)))
      | else-not-contains w ↦ (rw (w.out-is, outside_none c.args.group.now (λ i. get_or es i any_rect) (length es) l.i-counter h c.contains.ensures.value w.if-not-contains.false) l.invariant.0, rw w.out-is (omega arith))
    ]

pub returns : goal.returns
returns c = c.loop-i.invariant.0 ∙ outside_all c.args.group.now (λ i. get_or c.args.elements.now i any_rect) _ _ c.loop-i-test.false
