-- Saved rectangles, as parts of the screen: what `Preset::layout_in` restores, and `Preset::capture` of input.rs.
use Rattle.std.specs.Prelude.{cond, List, [], ◌∷◌, map, Float}
use Rattle.prelude.specs.Lists.{replace_first, is_empty}
use Rattle.float.specs.Float.{◌⊖◌, ◌⊗◌, ◌⊘◌, k0, k24}
use Rattle.float.specs.MinMax.{min_of, clamp_of}
use Rattle.geometry.specs.declared.Rect.{Rect}
use Rattle.geometry.specs.Rect.{new_of}
use Rattle.layout.specs.declared.Layout.{Layout}
use Rattle.layout.specs.Layout.{elements_of, element_count_of}
use Rattle.layout.specs.Elements.{set_elements_of}
use Rattle.settings.specs.declared.Preset.{Preset}
use Rattle.settings.specs.Settings.{with_elements, usable_of}

-- ---- restored

-- 24 points wide and high at least, where the screen is, and all of it on the screen
unfoldable pub on_screen_of : Float → Float → Rect → Rect
on_screen_of w h r =
    let width = clamp_of (r.w ⊗ w) (min_of k24 w) w in
    let height = clamp_of (r.h ⊗ h) (min_of k24 h) h in
    new_of (clamp_of (r.x ⊗ w) k0 (w ⊖ width)) (clamp_of (r.y ⊗ h) k0 (h ⊖ height)) width height

-- what was saved for an element, else the element: a rectangle with a number that is not finite is passed over
unfoldable pub restore_of : Float → Float → Rect → Rect → Rect
restore_of w h saved element = cond (usable_of saved) (on_screen_of w h saved) element

unfoldable pub restored_of : Float → Float → List Rect → List Rect → List Rect
restored_of w h [] es = es
restored_of w h (r ∷ rs) [] = []
restored_of w h (r ∷ rs) (e ∷ es) = restore_of w h r e ∷ restored_of w h rs es

unfoldable pub with_saved_of : Layout → Float → Float → List Rect → Layout
with_saved_of l w h saved = cond (is_empty saved) l (set_elements_of l (restored_of w h saved (elements_of l)))

-- ---- `capture`: the elements of a layout, saved as parts of the screen
unfoldable pub part_of : Float → Float → Rect → Rect
part_of w h r = new_of (r.x ⊘ w) (r.y ⊘ h) (r.w ⊘ w) (r.h ⊘ h)

unfoldable pub capture_of : Preset → Layout → Float → Float → Preset
capture_of p l w h =
    let n = element_count_of l in
    with_elements p (replace_first n (map (part_of w h) (elements_of l)) p.elements) n
