-- The face controls: the box around them, by their own rectangles, and their number, by the labels.
use mathlib.Core.Path.{◌≡◌, refl, ap, sym, ◌∙◌}
use mathlib.Core.Bool.{Bool, true, false, cond}
use mathlib.Core.List.{List, [], ◌∷◌, map}
use Prim.Native.Nat.{ℕ, suc, ◌+◌, ◌<◌, ◌≤◌}
use native.Mathlib.Omega.{arith}
use lib.ListN.{length, get_or}
use lib.Seq.{get_or-take, length-take-le}
use Rattle.prelude.specs.Lists.{filter_map, reduce, enumerate_from, retain}
use Rattle.prelude.proofs.ListLaws.{map_cond}
use Rattle.geometry.specs.Rect.{empty_rect}
use Rattle.layout.specs.declared.Control.{Control}
use Rattle.layout.specs.declared.Layout.{Layout}
use Rattle.layout.specs.declared.Label.{Label}
use Rattle.layout.specs.Label.{is_face_of}
use Rattle.layout.specs.Layout.{any_control, control_list, element_of}
use Rattle.layout.specs.Labels.{labels_of}
use Rattle.layout.proofs.ElementLaws.{element_control}
use Rattle.layout.specs.Actions.{join_of, action_elements_of, action_bounds_of}

module _ (l : Layout) where
  boxes_from : (cs : List Control) (j : ℕ) → ((k : ℕ) → k < length cs → element_of l (suc (j + k)) ≡ (get_or cs k any_control).bounds)
      → map (element_of l) (filter_map (λ e. is_face_of e.1.label) (λ e. e.0) (enumerate_from (suc j) cs)) ≡ filter_map (λ c. is_face_of c.label) (λ c. c.bounds) cs
  boxes_from [] j h = refl
  boxes_from (c ∷ cs) j h =
      let e : suc j ≡ suc (j + 0) = omega arith in
      map_cond (element_of l) (is_face_of c.label) (suc j) c.bounds _ _ (ap (element_of l) e ∙ h 0 (omega arith))
      (boxes_from cs (suc j) (λ k p. let q : suc (suc j + k) ≡ suc (j + suc k) = omega arith in ap (element_of l) q ∙ h (suc k) (omega arith)))

  -- the elements that `action_elements` names are the face controls
  action_boxes : l.count ≤ length l.controls → map (element_of l) (action_elements_of l) ≡ filter_map (λ c. is_face_of c.label) (λ c. c.bounds) (control_list l)
  unfolding action_elements_of
  action_boxes h =
      let n : length (control_list l) ≡ l.count = length-take-le l.count l.controls h in
      boxes_from (control_list l) 0 (λ k p. element_control l (suc (0 + k)) k (omega arith) (omega arith)
      ∙ ap (λ (c : Control). c.bounds) (sym (get_or-take l.count l.controls k any_control (omega arith))))

  pub action_bounds_lem : l.count ≤ length l.controls → action_bounds_of l ≡ reduce join_of empty_rect (filter_map (λ c. is_face_of c.label) (λ c. c.bounds) (control_list l))
  unfolding action_bounds_of
  action_bounds_lem h = ap (reduce join_of empty_rect) (action_boxes h)

-- ---- how many faces a layout has, by its labels
count_faces : (j : ℕ) (cs : List Control)
    → length (filter_map (λ (e : ℕ × Control). is_face_of e.1.label) (λ (e : ℕ × Control). e.0) (enumerate_from j cs)) ≡ length (retain is_face_of (map (λ (c : Control). c.label) cs))
count_faces j [] = refl
count_faces j (c ∷ cs) = go (is_face_of c.label) _ _ (count_faces (suc j) cs)
  where
    go : (b : Bool) (is : List ℕ) (ks : List Label) → length is ≡ length ks → length (cond b (j ∷ is) is) ≡ length (cond b (c.label ∷ ks) ks)
    go true is ks e = ap suc e
    go false is ks e = e

pub face_count : (l : Layout) (labels : List Label) → labels_of l ≡ labels → length (action_elements_of l) ≡ length (retain is_face_of labels)
unfolding action_elements_of
face_count l labels e = count_faces 1 (control_list l) ∙ ap (λ (ks : List Label). length (retain is_face_of ks)) e
