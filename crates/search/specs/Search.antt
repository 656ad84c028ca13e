-- `clear_picture_aspect` and `place_game_in_aspect` of input.rs.
use Rattle.std.specs.Prelude.{Bool, cond, ◌&&◌, ◌||◌, Float}
use mathlib.Core.List.{List, [], ◌∷◌, map, foldl}
use Rattle.std.specs.Float.Ieee.{lt, le, eq}
use Rattle.prelude.specs.Lists.{filter_map}
use Rattle.float.specs.Float.{◌⊕◌, ◌⊖◌, ◌⊗◌, ◌⊘◌, k0, k0_01, k0_25, k1, k2, k3, k4, k272, k480}
use Rattle.float.specs.MinMax.{min_of, max_of, clamp_of}
use Rattle.geometry.specs.declared.Rect.{Rect}
use Rattle.geometry.specs.Rect.{new_of, empty_rect, overlaps_of}
use Rattle.geometry.specs.declared.Offset.{Offset}
use Rattle.layout.specs.declared.Layout.{Layout}
use Rattle.layout.specs.Layout.{elements_of, with_game}

-- the lower and the right edge of an obstacle
abbrev pub bottom_of : Rect → Float
bottom_of r = r.y ⊕ r.h

abbrev pub right_of : Rect → Float
right_of r = r.x ⊕ r.w

-- the places where a picture may start, down and across: 0, and the far edge of each obstacle
abbrev pub bottoms : List Rect → List Float
bottoms obstacles = k0 ∷ map bottom_of obstacles

abbrev pub rights : List Rect → List Float
rights obstacles = k0 ∷ map right_of obstacles

-- such a place lies in the area
unfoldable pub within_of : Float → Float → Bool
within_of y h = le k0 y && le y h

-- `best`, or the picture of a width at x and y if that is wider, or as wide and higher up
unfoldable pub better_of : Rect → Float → Float → Float → Float → Rect
better_of best x y width aspect =
    cond (lt best.w width || (eq width best.w && lt y best.y)) (new_of x y width (width ⊘ aspect)) best

-- ---- the centred search: document 01's "what `clear_picture_aspect` does before its side search"

-- what one obstacle leaves of the width of a picture at y: it ends beside the obstacle or above it
unfoldable pub narrow_of : Float → Float → Float → Float → Rect → Float
narrow_of center aspect y width r =
    let beside = max_of (max_of (center ⊖ r.x ⊖ r.w) (r.x ⊖ center)) k0 ⊗ k2 in
    let above = max_of (r.y ⊖ y) k0 ⊗ aspect in
    cond (le (bottom_of r) (y ⊕ k0_01)) width (min_of width (max_of beside above))

unfoldable pub width_at : Float → Float → List Rect → Float → Float → Float
width_at w h obstacles aspect y = foldl (narrow_of (w ⊘ k2) aspect y) (max_of (min_of w ((h ⊖ y) ⊗ aspect)) k0) obstacles

-- one turn of the search
unfoldable pub try_at : Float → Float → List Rect → Float → Rect → Float → Rect
try_at w h obstacles aspect best y =
    let width = width_at w h obstacles aspect y in
    cond (within_of y h) (better_of best ((w ⊖ width) ⊘ k2) y width aspect) best

unfoldable pub centered_of : Float → Float → List Rect → Float → Rect
centered_of w h obstacles aspect = foldl (try_at w h obstacles aspect) empty_rect (bottoms obstacles)

-- ---- the side search, for controls that fill the whole centre column

-- what one obstacle leaves of the width of a picture at x and y: it ends before the obstacle or above it
unfoldable pub narrow_side_of : Float → Float → Float → Float → Rect → Float
narrow_side_of aspect x y width r =
    let limit = max_of (max_of (r.x ⊖ x) ((r.y ⊖ y) ⊗ aspect)) k0 in
    cond (le (right_of r) (x ⊕ k0_01) || le (bottom_of r) (y ⊕ k0_01)) width (min_of width limit)

unfoldable pub side_width_at : Float → Float → List Rect → Float → Float → Float → Float
side_width_at w h obstacles aspect x y =
    foldl (narrow_side_of aspect x y) (max_of (min_of (w ⊖ x) ((h ⊖ y) ⊗ aspect)) k0) obstacles

-- one turn of the loop over y, and one of the loop over x
unfoldable pub try_side_at : Float → Float → List Rect → Float → Float → Rect → Float → Rect
try_side_at w h obstacles aspect x best y =
    cond (within_of y h) (better_of best x y (side_width_at w h obstacles aspect x y) aspect) best

unfoldable pub try_column : Float → Float → List Rect → Float → Rect → Float → Rect
try_column w h obstacles aspect best x =
    cond (within_of x w) (foldl (try_side_at w h obstacles aspect x) best (bottoms obstacles)) best

unfoldable pub side_of : Float → Float → List Rect → Float → Rect
side_of w h obstacles aspect = foldl (try_column w h obstacles aspect) empty_rect (rights obstacles)

-- ---- the picture

unfoldable pub clear_picture_aspect_of : Float → Float → List Rect → Float → Rect
clear_picture_aspect_of w h obstacles aspect =
    let centered = centered_of w h obstacles aspect in
    cond (lt k0 centered.w) centered (side_of w h obstacles aspect)

abbrev pub clear_picture_of : Float → Float → List Rect → Rect
clear_picture_of w h obstacles = clear_picture_aspect_of w h obstacles (k4 ⊘ k3)

-- the elements that overlap the area, moved into its frame
unfoldable pub obstacles_of : Rect → List Rect → List Rect
obstacles_of bounds elements =
    filter_map (λ r. overlaps_of r bounds) (λ r. new_of (r.x ⊖ bounds.x) (r.y ⊖ bounds.y) r.w r.h) elements

-- the picture's shape: 480 to 272 for psp, else 4 to 3
abbrev pub aspect_of : Bool → Float
aspect_of psp = cond psp (k480 ⊘ k272) (k4 ⊘ k3)

-- the game for the elements that may not be covered
unfoldable pub game_of : List Rect → Rect → Float → Offset → Float → Rect
game_of elements bounds factor offset aspect =
    let obstacles = obstacles_of bounds elements in
    let area = cond (eq aspect (k4 ⊘ k3)) (clear_picture_of bounds.w bounds.h obstacles) (clear_picture_aspect_of bounds.w bounds.h obstacles aspect) in
    let scale = clamp_of factor k0_25 k1 in
    new_of
    (bounds.x ⊕ area.x ⊕ area.w ⊗ (k1 ⊖ scale) ⊗ clamp_of offset.x k0 k1)
    (bounds.y ⊕ area.y ⊕ area.h ⊗ (k1 ⊖ scale) ⊗ clamp_of offset.y k0 k1)
    (area.w ⊗ scale)
    (area.h ⊗ scale)

unfoldable pub place_game_in_aspect_of : Layout → Rect → Bool → Float → Offset → Float → Layout
place_game_in_aspect_of l bounds overlap scale offset aspect =
    with_game l (game_of (cond overlap [] (elements_of l)) bounds scale offset aspect)

abbrev pub place_game_in_of : Layout → Rect → Bool → Float → Offset → Layout
place_game_in_of l bounds overlap scale offset = place_game_in_aspect_of l bounds overlap scale offset (k4 ⊘ k3)

abbrev pub place_game_of : Layout → Float → Float → Bool → Float → Offset → Layout
place_game_of l w h overlap scale offset = place_game_in_of l (new_of k0 k0 w h) overlap scale offset
