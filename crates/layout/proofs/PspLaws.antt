-- Laws of `psp_inputs`: its labels, its counts, and that it only takes away.
use mathlib.Core.Path.{◌≡◌, refl, ap, ◌∙◌}
use mathlib.Core.List.{map}
use Prim.Native.Nat.{◌≤◌}
use native.Mathlib.Nat.{le_trans, min-le_right}
use native.Mathlib.Omega.{arith}
use lib.Dec.{lit≤}
use lib.ListN.{length, drop}
use lib.Seq.{take_at, length-take-le}
use Rattle.prelude.specs.Lists.{retain}
use Rattle.prelude.proofs.ListLaws.{map_retain, retain_fewer}
use Rattle.layout.specs.declared.Control.{Control}
use Rattle.layout.specs.declared.Layout.{Layout}
use Rattle.layout.specs.Label.{on_psp_of}
use Rattle.layout.specs.Layout.{Few, control_list}
use Rattle.layout.specs.Labels.{labels_of}
use Rattle.layout.specs.Psp.{at_most_one_of, on_psp, psp_inputs_of}

module _ (l : Layout) where
  pub psp_controls : control_list (psp_inputs_of l) ≡ retain on_psp (control_list l)
  unfolding psp_inputs_of
  psp_controls = let kept = retain on_psp (control_list l) in take_at kept (drop (length kept) l.controls) (length kept) refl

  pub psp_labels_lem : labels_of (psp_inputs_of l) ≡ retain on_psp_of (labels_of l)
  psp_labels_lem = ap (map (λ (c : Control). c.label)) psp_controls ∙ map_retain (λ (c : Control). c.label) on_psp_of (control_list l)

  pub psp_fewer : l.count ≤ length l.controls → (psp_inputs_of l).count ≤ l.count
  unfolding psp_inputs_of
  psp_fewer h =
      let a = retain_fewer on_psp (control_list l) in
      let b : length (control_list l) ≡ l.count = length-take-le l.count l.controls h in
      omega arith

  psp_sticks : l.stickcount ≤ 2 → (psp_inputs_of l).stickcount ≤ 2
  unfolding psp_inputs_of at_most_one_of
  psp_sticks h = le_trans (min-le_right l.stickcount 1) (lit≤ tt)

  pub psp_counts : length l.controls ≡ 12 → Few l → Few (psp_inputs_of l)
  psp_counts n k =
      let c = k.0 in
      let h : l.count ≤ length l.controls = omega arith in
      (le_trans (psp_fewer h) c, psp_sticks k.1)
