-- `action_elements` and `action_bounds` of input.rs: the face controls of a layout.
use Rattle.std.specs.Prelude.{List, map, ℕ}
use Rattle.prelude.specs.Lists.{filter_map, reduce, enumerate_from}
use Rattle.float.specs.Float.{◌⊕◌, ◌⊖◌}
use Rattle.float.specs.MinMax.{min_of, max_of}
use Rattle.geometry.specs.declared.Rect.{Rect}
use Rattle.geometry.specs.Rect.{new_of, empty_rect}
use Rattle.layout.specs.declared.Layout.{Layout}
use Rattle.layout.specs.Label.{is_face_of}
use Rattle.layout.specs.Layout.{control_list, element_of}

-- the element's index, one above the control's, of each face control
unfoldable pub action_elements_of : Layout → List ℕ
action_elements_of l = filter_map (λ e. is_face_of e.1.label) (λ e. e.0) (enumerate_from 1 (control_list l))

-- the box around two rectangles
unfoldable pub join_of : Rect → Rect → Rect
join_of a b =
    let x = min_of a.x b.x in
    let y = min_of a.y b.y in
    new_of x y (max_of (a.x ⊕ a.w) (b.x ⊕ b.w) ⊖ x) (max_of (a.y ⊕ a.h) (b.y ⊕ b.h) ⊖ y)

-- the box around the face controls
unfoldable pub action_bounds_of : Layout → Rect
action_bounds_of l = reduce join_of empty_rect (map (element_of l) (action_elements_of l))
