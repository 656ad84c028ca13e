-- The first steps of `Preset::layout_in` of input.rs: the layout at first, the area that the game gets and the arrangement for it.
use Rattle.std.specs.Prelude.{Bool, cond, ◌&&◌, ◌||◌, Float, get_or, Option, Some, None, unwrap_or}
use mathlib.Core.List.{List, [], ◌∷◌, map, foldl}
use Rattle.std.specs.Float.Ieee.{lt, le}
use Rattle.float.specs.Float.{◌⊕◌, ◌⊖◌, k0, k0_01, k1}
use Rattle.float.specs.MinMax.{min_of, max_of, abs_of}
use Rattle.geometry.specs.declared.Rect.{Rect}
use Rattle.geometry.specs.Rect.{new_of}
use Rattle.layout.specs.declared.Layout.{Layout}
use Rattle.layout.specs.Layout.{any_rect}
use Rattle.search.specs.Search.{bottom_of, clear_picture_aspect_of, aspect_of}
use Rattle.toolbar.specs.Toolbar.{anchor_toolbar_of, reusable_top_of}
use Rattle.band.specs.Band.{controller_band_of}
use Rattle.defaults.specs.Defaults.{default_in_of, analog_default_of, psp_of}
use Rattle.camera_rails.specs.CameraRails.{cleared_of, analog_camera_rails_of}
use Rattle.picture.specs.Picture.{controls_of}

-- Flags stand in one order everywhere: marked (`self.analog`) or analog (the Rust's `analog`: marked or psp, so that there are sticks);
-- psp (`self.psp`); maximum (the fit is Maximum); plain (nothing was saved and no overlap asked for, so that other arrangements may be tried).
-- `picture` is the Rust's until Maximum takes the toolbar's row from it; what is left of it is `area`.

-- the arrangement that a preset starts from
unfoldable pub start_of : Bool → Bool → Float → Float → List Rect → Rect → Layout
start_of marked psp w h cutouts picture =
    cond psp (psp_of w h) (cond marked (analog_default_of w h) (default_in_of w h cutouts picture))

-- ---- Maximum: one row of keys above the whole picture, and the controls about it

-- the part of the picture's area below the toolbar's keys, one point high at least
unfoldable pub below_toolbar_of : Layout → Rect → Rect
below_toolbar_of layout picture =
    let lowest = foldl max_of picture.y (map bottom_of (layout.playback ∷ layout.speed ∷ layout.mute ∷ layout.pause ∷ [])) in
    let bottom = min_of lowest (picture.y ⊕ max_of (picture.h ⊖ k1) k0) in
    new_of picture.x bottom picture.w (max_of (picture.y ⊕ picture.h ⊖ bottom) k1)

-- the largest picture in an area
unfoldable pub largest_of : Rect → Float → Rect
largest_of area aspect =
    let fitted = clear_picture_aspect_of area.w area.h [] aspect in
    new_of (area.x ⊕ fitted.x) (area.y ⊕ fitted.y) fitted.w fitted.h

-- The controls about the picture replace the layout with no comparison.
unfoldable pub around_of : Layout → Bool → Bool → Float → Float → List Rect → Rect → Layout
around_of layout analog psp w h cutouts area =
    let game = largest_of area (aspect_of psp) in
    unwrap_or (controls_of w h game analog psp cutouts) layout

-- ---- KeepClear: a band below the picture, or rails beside it

abbrev pub stick_width : Layout → Float
stick_width l = (get_or l.sticks 0 any_rect).w

-- the rails have the wider picture by more than 0.01, or one as wide to 0.01 beside a wider stick
unfoldable pub rails_win_of : Layout → Layout → Bool
rails_win_of candidate layout =
    lt (layout.game.w ⊕ k0_01) candidate.game.w
    || (le (abs_of (candidate.game.w ⊖ layout.game.w)) k0_01 && lt (stick_width layout) (stick_width candidate))

-- the rails, or the layout as it was compared with them: clear of cutouts, its game placed
abbrev pub compared_of : Layout → Layout → Option Layout → Layout
compared_of layout clear None = layout
compared_of layout clear (Some candidate) = cond (rails_win_of candidate clear) candidate clear

unfoldable pub try_rails_of : Layout → Bool → Float → Float → List Rect → Rect → Layout
try_rails_of layout psp w h cutouts area =
    compared_of layout (cleared_of layout w h area cutouts psp) (analog_camera_rails_of w h area cutouts psp)

-- The band, too, replaces the layout with no comparison.
unfoldable pub band_or_rails_of : Layout → Bool → Bool → Float → Float → List Rect → Rect → Layout
band_or_rails_of layout analog psp w h cutouts area =
    let banded = unwrap_or (controller_band_of w h analog psp area) layout in
    cond analog (try_rails_of banded psp w h cutouts area) banded

-- ---- the steps

-- the layout at first, with the toolbar in its row above a Maximum picture
unfoldable pub first_of : Bool → Bool → Bool → Float → Float → List Rect → Rect → Layout
first_of marked psp maximum w h cutouts picture =
    let layout = start_of marked psp w h cutouts picture in
    cond maximum (anchor_toolbar_of layout w h (reusable_top_of picture) k0 cutouts) layout

-- the area that the game gets
unfoldable pub area_of : Layout → Bool → Rect → Rect
area_of layout maximum picture = cond maximum (below_toolbar_of layout picture) picture

-- the arrangement for that area, or the layout as it was
unfoldable pub arrangement_of : Layout → Bool → Bool → Bool → Bool → Float → Float → List Rect → Rect → Layout
arrangement_of layout analog psp maximum plain w h cutouts area =
    cond plain (cond maximum (around_of layout analog psp w h cutouts area) (band_or_rails_of layout analog psp w h cutouts area)) layout
