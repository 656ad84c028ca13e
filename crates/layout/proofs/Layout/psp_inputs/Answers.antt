-- `psp_inputs`: a control more that a psp has is put in front, any other is passed.
use native.Mathlib.Omega.{arith}
use mathlib.Core.Path.{◌≡◌, refl, ap, ◌∙◌}
use lib.Seq.{length-take-le}
use lib.ListN.{length, set, length-set}
use Rattle.prelude.specs.Lists.{retain, compact}
use Rattle.prelude.proofs.Filters.{put_count, put_list, skip_count, skip_list}
use Rattle.layout.specs.Layout.{any_control, control_list}
use Rattle.layout.specs.Psp.{on_psp, at_most_one_of, psp_inputs_of}
use Rattle.layout.proofs.ArrayLaws.{array_lengths, control_passed}
use Rattle.layout.proofs.Layout.psp_inputs.Goals as goal
use Rattle.layout.proofs.Layout.psp_inputs.Goals.{then-on_psp, else-on_psp}

pub loop-c-init : goal.loop-c-init
loop-c-init c = (omega arith, (array_lengths c.args.self c.well_formed.0).0, refl, refl)

pub loop-c-preserved : goal.loop-c-preserved
loop-c-preserved c =
    let cs = c.args.self.controls in
    let i = c.loop-c.c-index in
    let passed = control_passed c.args.self (array_lengths c.args.self c.well_formed.0).0 c.requires c.control_list-c-items.ensures c.loop-c-test.true in
    let f = c.on_psp.ensures ∙ ap on_psp passed.1 in
    let v = c.loop-c.invariant in
    elim c.if-on_psp.branch [
      | then-on_psp w ↦
          let counted = put_count on_psp cs i any_control passed.0 f _ w.if-on_psp.true v.2 in
          let put = put_list on_psp cs i any_control passed.0 f _ _ w.if-on_psp.true v.2 v.3 in
          (omega arith, ap length w.controls-is ∙ simp length-set v.1, w.count-is ∙ counted, w.controls-is ∙ ap (set c.loop-c.controls c.loop-c.count) passed.1 ∙ put)
      | else-on_psp w ↦
          let counted = skip_count on_psp cs i any_control passed.0 f _ w.if-on_psp.false v.2 in
          let kept = skip_list on_psp cs i any_control passed.0 f _ w.if-on_psp.false v.3 in
          (omega arith, ap length w.controls-is ∙ v.1, w.count-is ∙ counted, w.controls-is ∙ kept)
    ]

pub returns : goal.returns
unfolding psp_inputs_of at_most_one_of
returns c =
    let s = c.args.self in
    let n : length (control_list s) ≡ s.count = length-take-le s.count s.controls (omega (arith, array_lengths s c.well_formed.0)) in
    let e : s.count ≡ c.loop-c.c-index = omega (arith, ap length c.control_list-c-items.ensures ∙ n) in
    let k : c.loop-c.controls ≡ compact on_psp s.count s.controls = rw e c.loop-c.invariant.3 in
    let m : c.loop-c.count ≡ length (retain on_psp (control_list s)) = rw e c.loop-c.invariant.2 in
    rw (k, m, c.min.ensures) refl
