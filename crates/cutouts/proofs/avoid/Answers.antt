-- One element more: settled by itself, or on no cutout, or in the group.
use native.Mathlib.Omega.{arith}
use Prim.Native.Nat.{◌≤◌, ◌<◌}
use lib.ListN.{length}
use mathlib.Core.List.{[], ◌∷◌}
use mathlib.Core.Path.{sym, ◌∙◌}
use Rattle.std.proofs.lemmas.List.Sums.{fold-append}
use Rattle.cutouts.proofs.Groups.{missed, outside_one, outside_none, outside_all}
use Rattle.cutouts.proofs.avoid.Goals.{then-not-contains+then-overlaps_any, else-not-contains, else-not-contains-via-then-not-contains+else-overlaps_any, else-not-contains-via-else-not-contains}
use Rattle.cutouts.proofs.avoid.Goals as goal

pub loop-i-preserved : goal.loop-i-preserved
loop-i-preserved c =
    let s = c.args in
    let l = c.loop-i in
    let i = l.i-counter in
    let n = length s.elements.now in
    let h : i < n = omega arith in
    let inside = c.contains.ensures.value in
    elim c.if-not-contains.branch [
      | then-not-contains+then-overlaps_any w ↦ rw (w.elements-is, outside_one s.faces.now (λ i. i ∷ []) n i h inside w.if-not-contains.true, fold-append, ← l.invariant) w.settle-then-overlaps_any.ensures
      | else-not-contains w ↦ rw w.elements-is (elim w.else-not-contains.branch [
        | else-not-contains-via-then-not-contains+else-overlaps_any v ↦ rw (outside_one s.faces.now (λ i. i ∷ []) n i h inside v.if-not-contains.true, fold-append, ← l.invariant) (sym (missed s.w s.h s.holes.now l.elements i (sym v.overlaps_any.ensures ∙ v.if-overlaps_any.false)))
        | else-not-contains-via-else-not-contains v ↦ rw (outside_none s.faces.now (λ i. i ∷ []) n i h inside v.if-not-contains.false) l.invariant
      ])
    ]

pub returns : goal.returns
returns c =
    let n = length c.args.elements.now in
    let h : n ≤ c.loop-i.i-counter = omega arith in
    c.loop-i.invariant ∙ rw (outside_all c.args.faces.now (λ i. i ∷ []) n _ h, c.settle.ensures)
