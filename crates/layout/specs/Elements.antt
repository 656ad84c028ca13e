-- `controller_elements` of input.rs, and `set_element` for all elements at once.
use mathlib.Core.List.{List, ◌++◌, zip_with}
use Rattle.std.specs.Prelude.{ℕ, ◌+◌, drop, get_or}
use Rattle.prelude.specs.Lists.{replace_first, range}
use Rattle.geometry.specs.declared.Rect.{Rect}
use Rattle.layout.specs.declared.Layout.{Layout}
use Rattle.layout.specs.Layout.{any_rect, with_bounds, with_toolbar, with_controller, element_count_of}

-- the indices of all elements but the toolbar's
unfoldable pub controller_elements_of : Layout → List ℕ
controller_elements_of l = let n = l.count in range 0 (n + 1) ++ range (n + 5) (element_count_of l)

-- the layout with a rectangle of the list for each of its elements, in the order of their indices
unfoldable pub set_elements_of : Layout → List Rect → Layout
set_elements_of l rs =
    let n = l.count in
    let controls = replace_first n (zip_with with_bounds l.controls (drop 1 rs)) l.controls in
    let sticks = replace_first l.stickcount (drop (n + 5) rs) l.sticks in
    let pause = get_or rs (n + 1) any_rect in
    let playback = get_or rs (n + 2) any_rect in
    let speed = get_or rs (n + 3) any_rect in
    let mute = get_or rs (n + 4) any_rect in
    with_toolbar (with_controller l (get_or rs 0 any_rect) controls n sticks l.stickcount) playback speed mute pause
