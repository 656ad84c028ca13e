-- `action_bounds`: a face more joins the box, or begins it.
use native.Mathlib.Omega.{arith}
use mathlib.Core.Path.{◌≡◌, ap, sym, ◌∙◌}
use Prim.Native.Nat.{◌<◌}
use lib.Seq.{take_all}
use Rattle.std.specs.Prelude.{unwrap_or, Some, length, take, get_or}
use Rattle.prelude.proofs.Loops.{one_more, no_more}
use Rattle.prelude.proofs.Filters.{reduced, reduced_first, reduced_next, reduced_reduce}
use Rattle.geometry.specs.Rect.{empty_rect}
use Rattle.layout.specs.Layout.{any_control, control_list}
use Rattle.layout.specs.Actions.{join_of}
use Rattle.layout.proofs.ArrayLaws.{array_lengths}
use Rattle.layout.proofs.ActionLaws.{action_bounds_lem}
use Rattle.layout.proofs.Layout.action_bounds.Goals as goal
use Rattle.layout.proofs.Layout.action_bounds.Goals.{then-is_face+in-Some, then-is_face+in-None, else-is_face}
use Rattle.layout.proofs.Layout.action_bounds.Invariants.{faces}

pub loop-c-preserved : goal.loop-c-preserved
loop-c-preserved c =
    let cs = control_list c.args.self in
    let i = c.loop-c.c-index in
    let h : i < length cs = rw c.control_list-c-items.ensures at c.loop-c-test.true in
    let b = (get_or cs i any_control).bounds in
    let f = rw c.control_list-c-items.ensures at c.is_face.ensures in
    let passed = faces (take i cs) in
    elim c.if-is_face.branch [
      | then-is_face+in-Some w ↦
          w.bounds-is ∙ ap Some w.join.ensures ∙ rw c.control_list-c-items.ensures (sym (reduced_next join_of passed b w.in-Some.b (sym c.loop-c.invariant ∙ w.in-Some.is)) ∙ ap (reduced join_of) (sym (one_more _ (λ c. c.bounds) cs i any_control h f w.if-is_face.true)))
      | then-is_face+in-None w ↦
          w.bounds-is ∙ rw c.control_list-c-items.ensures (sym (reduced_first join_of passed b (sym c.loop-c.invariant ∙ w.in-None.is)) ∙ ap (reduced join_of) (sym (one_more _ (λ c. c.bounds) cs i any_control h f w.if-is_face.true)))
      | else-is_face w ↦ w.bounds-is ∙ c.loop-c.invariant ∙ ap (reduced join_of) (sym (no_more _ (λ c. c.bounds) cs i any_control h f w.if-is_face.false))
    ]

pub returns : goal.returns
returns c =
    let s = c.args.self in
    let size = (array_lengths s c.well_formed.0).0 in
    let all : take c.loop-c.c-index (control_list s) ≡ control_list s = take_all c.loop-c.c-index (control_list s) (rw c.control_list-c-items.ensures at c.loop-c-test.false) in
    c.unwrap_or.ensures ∙ ap (λ o. unwrap_or o empty_rect) (c.loop-c.invariant ∙ ap (λ cs. reduced join_of (faces cs)) all) ∙ reduced_reduce join_of empty_rect (faces (control_list s)) ∙ sym (action_bounds_lem s (omega arith))
