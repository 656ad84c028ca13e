-- Changes of a layout and what they leave of its labels, counts and arrays: its controls changed in place, new rectangles for its elements, the inputs of a psp. Of each mode: faces, counts, arrays.
use mathlib.Core.Path.{◌≡◌, refl, ap, sym, ◌∙◌}
use mathlib.Core.Bool.{Bool, true, false}
use mathlib.Core.List.{List, map, map-map, zip_with}
use Prim.Native.Nat.{ℕ, ◌+◌, ◌≤◌}
use native.Mathlib.Omega.{arith}
use lib.ListN.{length, take, drop, length-drop, length-map}
use lib.Seq.{length_front, length-take-le}
use Rattle.prelude.specs.Lists.{map_first, retain}
use Rattle.prelude.proofs.ListLaws.{length_map_first, take_map_first, length_zip_with, length_replace_first}
use Rattle.geometry.specs.declared.Rect.{Rect}
use Rattle.layout.specs.declared.Control.{Control}
use Rattle.layout.specs.declared.Label.{Label}
use Rattle.layout.specs.declared.Layout.{Layout}
use Rattle.layout.specs.Label.{id_of, mask_of, is_face_of, on_psp_of}
use Rattle.layout.specs.Layout.{Few, with_bounds, with_controls, control_list, element_count_of, elements_of}
use Rattle.layout.specs.Labels.{labels_of, standard_labels, analog_labels, psp_labels, Inputs, Formed, Holds, mode_labels, mode_sticks, OfMode}
use Rattle.layout.specs.Actions.{action_elements_of}
use Rattle.layout.specs.Elements.{set_elements_of}
use Rattle.layout.proofs.ActionLaws.{face_count}
use Rattle.layout.proofs.ElementLaws.{length_elements}
use Rattle.layout.proofs.SetElementLaws.{set_elements_kept}
use Rattle.layout.specs.Psp.{at_most_one_of, on_psp, psp_inputs_of, with_inputs_of}
use Rattle.layout.proofs.PspLaws.{psp_controls, psp_labels_lem}

module _ (labels : List Label) (sticks : ℕ) (l : Layout) where
  -- a change that keeps each control's label
  pub mapped_formed : (g : Control → Control) → ((c : Control) → (g c).label ≡ c.label) → Formed labels sticks l → Formed labels sticks (with_controls l (map_first g l.count l.controls))
  mapped_formed g same f =
      let n = l.count in
      let kept : map (λ (c : Control). c.label) (take n (map_first g n l.controls)) ≡ labels_of l = rw take_map_first (map-map (λ (c : Control). c.label) g (control_list l) ∙ simp same) in
      ((kept ∙ f.0.0, f.0.1, f.0.2), (length_map_first g n l.controls ∙ f.1.0, f.1.1))

  pub set_elements_formed : l.count ≤ 12 → l.stickcount ≤ 2 → (rects : List Rect) → length rects ≡ length (elements_of l) → Formed labels sticks l → Formed labels sticks (set_elements_of l rects)
  unfolding set_elements_of
  set_elements_formed cs ss rects r f =
      let c = f.1.0 in
      let s = f.1.1 in
      let n : length rects ≡ element_count_of l = r ∙ length_elements l (omega arith) (omega arith) in
      let d = length-drop 1 rects in
      let e = length-drop (l.count + 5) rects in
      let k = set_elements_kept l rects (omega arith) n in
      let z = length_zip_with with_bounds l.count l.controls (drop 1 rects) (omega arith) (omega arith) in (
        (k.labels ∙ f.0.0, k.count ∙ f.0.1, k.stickcount ∙ f.0.2),
        (
          length_replace_first l.count (zip_with with_bounds l.controls (drop 1 rects)) l.controls z (omega arith) ∙ c,
          length_replace_first l.stickcount (drop (l.count + 5) rects) l.sticks (omega arith) (omega arith) ∙ s,
        ),
      )

  pub psp_inputs_formed : retain on_psp_of labels ≡ psp_labels → Formed labels sticks l → Formed psp_labels (at_most_one_of sticks) (psp_inputs_of l)
  unfolding psp_inputs_of
  psp_inputs_formed e f =
      let c = f.1.0 in
      let kept = retain on_psp (control_list l) in
      let names : labels_of (psp_inputs_of l) ≡ psp_labels = psp_labels_lem l ∙ ap (retain on_psp_of) f.0.0 ∙ e in
      let n : length kept ≡ length psp_labels = ap length (sym (psp_controls l)) ∙ sym (length-map (control_list (psp_inputs_of l)) (λ (x : Control). x.label)) ∙ ap length names in (
        (names, n, ap at_most_one_of f.0.2),
        (length_front l.controls kept (length kept) (sym (length-take-le (length kept) l.controls (omega arith))) ∙ c, f.1.1),
      )

  -- one that is equal to a layout so formed, with its counts
  pub with_counts : {r : Layout} → Formed labels sticks l → r ≡ l → (r ≡ l) × (r.count ≡ length labels) × (r.stickcount ≡ sticks)
  with_counts f e = (e, ap (λ (m : Layout). m.count) e ∙ f.0.1, ap (λ (m : Layout). m.stickcount) e ∙ f.0.2)

pub with_inputs_formed : (analog psp : Bool) (l : Layout) → OfMode analog false l → OfMode analog psp (with_inputs_of l psp)
unfolding at_most_one_of on_psp_of mask_of id_of
with_inputs_formed analog false l f = f
with_inputs_formed true true l f = psp_inputs_formed analog_labels 2 l refl f
with_inputs_formed false true l f = psp_inputs_formed standard_labels 0 l refl f

-- four faces in each mode
pub mode_faces : (analog psp : Bool) → length (retain is_face_of (mode_labels analog psp)) ≡ 4
unfolding is_face_of
mode_faces analog true = refl
mode_faces true false = refl
mode_faces false false = refl

pub mode_counts : (analog psp : Bool) (l : Layout) → Inputs (mode_labels analog psp) (mode_sticks analog psp) l → (l.count ≤ 12) × (l.stickcount ≤ 2)
mode_counts true true l i = let n = i.1 in let s = i.2 in (omega arith, omega arith)
mode_counts true false l i = let n = i.1 in let s = i.2 in (omega arith, omega arith)
mode_counts false true l i = let n = i.1 in let s = i.2 in (omega arith, omega arith)
mode_counts false false l i = let n = i.1 in let s = i.2 in (omega arith, omega arith)

-- what the steps ask of a layout of a mode
pub few : (analog psp : Bool) (l : Layout) → OfMode analog psp l → Few l
few analog psp l f = mode_counts analog psp l f.0

pub few_faces : (analog psp : Bool) (l : Layout) → OfMode analog psp l → length (action_elements_of l) ≤ 4
few_faces analog psp l f =
    let k : length (action_elements_of l) ≡ 4 = face_count l _ f.0.0 ∙ mode_faces analog psp in
    omega arith

pub mode_holds : (analog psp : Bool) (l : Layout) → OfMode analog psp l → Holds l
mode_holds analog psp l f =
    let n = mode_counts analog psp l f.0 in
    let c = n.0 in
    let s = n.1 in
    let cs = f.1.0 in
    let ss = f.1.1 in
    record { controls = omega arith; sticks = omega arith; stick = omega arith }
