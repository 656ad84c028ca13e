-- `Layout::new`, `default_in`, `analog_default` and `psp` of input.rs: the layouts before a user changes them.
use Rattle.std.specs.Prelude.{Bool, true, false, cond, not, ◌&&◌, ◌||◌, List, [], map, Float, Option, Some, None}
use Rattle.std.specs.Float.Ieee.{lt, le, ne}
use Rattle.float.specs.Float.{◌⊕◌, ◌⊖◌, ◌⊗◌, ◌⊘◌, k0, k0_01, k1, k1_35, k2, k8, k16, k20, k24, k32, k48, k56, k76, k88, k104, k122, k128, k160, k184, k192, k304, k336, k360}
use Rattle.float.specs.MinMax.{max_of, clamp_of}
use Rattle.geometry.specs.declared.Rect.{Rect}
use Rattle.geometry.specs.Rect.{new_of}
use Rattle.geometry.specs.Offset.{centred}
use Rattle.layout.specs.declared.Layout.{Layout}
use Rattle.layout.specs.Layout.{with_dpad, elements_of}
use Rattle.layout.specs.Elements.{set_elements_of}
use Rattle.layout.specs.Psp.{psp_inputs_of}
use Rattle.search.specs.Search.{place_game_in_of}
use Rattle.places.specs.declared.Places.{Places}
use Rattle.places.specs.Places.{well_faces_of, placed_of}
use Rattle.arranged.specs.Arranged.{finished_of, arranged_of, side_rails_of}
use Rattle.band.specs.Band.{with_analog_of, controller_band_of}
use Rattle.defaults.specs.declared.Size.{Size}
use Rattle.defaults.specs.declared.Sizes.{Sizes}
use Rattle.defaults.specs.declared.Halves.{Halves}

-- ---- `default_in`: the arrangement with the widest picture, of those that the screen has room for

-- the other layout, if its game is wider by more than 0.01
unfoldable pub wider_of : Layout → Layout → Layout
wider_of layout other = cond (lt (layout.game.w ⊕ k0_01) other.game.w) other layout

-- the largest game that is clear of all elements
abbrev pub clear_game_of : Layout → Rect → Layout
clear_game_of layout picture = place_game_in_of layout picture false k1 centred

-- A square screen has room for the shoulders and the system keys between the two thumb wells. The pictures are
-- compared, since a wide or a narrow screen is better served without that dock.
unfoldable pub try_dock_of : Layout → Float → Float → Rect → Layout
try_dock_of rails w h picture =
    let cluster = rails.dpad.w in
    let shoulder = (cluster ⊖ k8) ⊘ k2 in
    let middle = w ⊖ k2 ⊗ (k16 ⊕ cluster) in
    cond (le k160 cluster && le (k2 ⊗ shoulder ⊕ k16) middle) (wider_of rails (clear_game_of (arranged_of w h true) picture)) rails

unfoldable pub try_side_of : Layout → Float → Float → List Rect → Rect → Layout
try_side_of rails w h cutouts picture =
    cond (lt (h ⊗ k1_35) w && le k304 h) (wider_of rails (clear_game_of (side_rails_of w h picture.h cutouts) picture)) rails

abbrev pub wider_if : Layout → Option Layout → Layout
wider_if layout None = layout
wider_if layout (Some band) = wider_of layout band

unfoldable pub try_band_of : Layout → Float → Float → Bool → Rect → Layout
try_band_of layout w h analog picture = wider_if layout (controller_band_of w h analog false picture)

unfoldable pub default_in_of : Float → Float → List Rect → Rect → Layout
default_in_of w h cutouts picture =
    let rails = clear_game_of (arranged_of w h false) picture in
    let docked = try_dock_of rails w h picture in
    let sided = try_side_of docked w h cutouts picture in
    try_band_of sided w h false picture

abbrev pub default_with_cutouts_of : Float → Float → List Rect → Layout
default_with_cutouts_of w h cutouts = default_in_of w h cutouts (new_of k0 k0 w h)

-- `Layout::new`
abbrev pub new_layout_of : Float → Float → Layout
new_layout_of w h = default_with_cutouts_of w h []

-- ---- `analog_default`: in each half a digital well above a stick, and a column of keys on the stick's inner side

-- the margin below the sticks, a stick, a digital well, what is as wide as both, and whether the shoulders, each of
-- the last width, lie between the wells or above them
unfoldable pub size_halves_of : Float → Float → Sizes
size_halves_of w h =
    let landscape = lt (h ⊗ k1_35) w in
    let bottom = cond landscape (clamp_of (h ⊖ k336) k24 k32) k32 in
    let stick = cond landscape k104 (clamp_of (w ⊘ k2 ⊖ k76) k104 k128) in
    -- In landscape the stick keeps its size, the caps are 48 at least, Triangle and Cross keep a gap, and what the
    -- height leaves goes to the digital wells.
    let face = cond landscape (clamp_of (h ⊖ k56 ⊖ k48 ⊖ k16 ⊖ stick ⊖ bottom) k122 k184) (clamp_of (w ⊘ k2 ⊖ k20) k122 k184) in
    let column = max_of face (stick ⊕ k56) in
    let middle = not landscape && le k192 (w ⊖ k2 ⊗ (k16 ⊕ column)) in
    record { bottom = bottom; stick = stick; face = face; column = column; middle = middle; shoulder = cond middle k88 ((column ⊖ k8) ⊘ k2) }

-- the digital well at digital_x and face_y, the stick at main_y, and the left shoulders L1 at x1 and y1, L2 at x2 and y2
unfoldable pub measure_halves_of : Float → Float → Sizes → Halves
measure_halves_of w h s =
    let mainY = h ⊖ s.bottom ⊖ s.stick in
    let faceY = mainY ⊖ k8 ⊖ s.face in
    let inner = k16 ⊕ s.column ⊕ k8 in
    record {
      w = w;
      stick = s.stick;
      face = s.face;
      shoulder = s.shoulder;
      digital_x = k16 ⊕ (s.column ⊖ s.face) ⊘ k2;
      main_y = mainY;
      face_y = faceY;
      faces = well_faces_of (w ⊖ k16 ⊖ s.column ⊘ k2) (faceY ⊕ s.face ⊘ k2) s.face;
      x1 = cond s.middle inner (k16 ⊕ k0);
      x2 = cond s.middle inner (k16 ⊕ (s.shoulder ⊕ k8));
      y1 = cond s.middle (faceY ⊕ k56) (faceY ⊖ k56);
      y2 = cond s.middle (faceY ⊕ k0) (faceY ⊖ k56);
    }

unfoldable pub half_places_of : Halves → Places
half_places_of b =
    let left = k16 ⊕ b.stick ⊕ k8 in
    let right = b.w ⊖ k16 ⊖ b.stick ⊖ k56 in
    let lower = b.main_y ⊕ b.stick ⊖ k48 in
    record {
      faces = b.faces;
      l1 = new_of b.x1 b.y1 b.shoulder k48;
      l2 = new_of b.x2 b.y2 b.shoulder k48;
      r2 = new_of (b.w ⊖ b.x2 ⊖ b.shoulder) b.y2 b.shoulder k48;
      r1 = new_of (b.w ⊖ b.x1 ⊖ b.shoulder) b.y1 b.shoulder k48;
      select = new_of left b.main_y k48 k48;
      start = new_of right b.main_y k48 k48;
      l3 = new_of left lower k48 k48;
      r3 = new_of right lower k48 k48;
    }

abbrev pub half_dpad : Halves → Rect
half_dpad b = new_of b.digital_x b.face_y b.face b.face

abbrev pub half_left_stick : Halves → Rect
half_left_stick b = new_of k16 b.main_y b.stick b.stick

abbrev pub half_right_stick : Halves → Rect
half_right_stick b = new_of (b.w ⊖ k16 ⊖ b.stick) b.main_y b.stick b.stick

-- for a screen of 360 by 360 at least. The Rust sets the toolbar's keys here too, in landscape; they are at most scaled
-- with the other elements, and then anchored anew.
unfoldable pub analog_full_of : Float → Float → Layout
analog_full_of w h =
    let b = measure_halves_of w h (size_halves_of w h) in
    let places = half_places_of b in
    let digital = with_dpad (placed_of (new_layout_of w h) places) (half_dpad b) in
    with_analog_of digital places.l3 places.r3 (half_left_stick b) (half_right_stick b)

abbrev pub size : Float → Float → Size
size w h = record { w = w; h = h }

abbrev pub scaled_rect_of : Size → Size → Rect → Rect
scaled_rect_of requested full r =
    new_of (r.x ⊗ requested.w ⊘ full.w) (r.y ⊗ requested.h ⊘ full.h) (r.w ⊗ requested.w ⊘ full.w) (r.h ⊗ requested.h ⊘ full.h)

-- For a moment a surface can be smaller than any layout that can be used; all elements are scaled to it then.
unfoldable pub shrunk_of : Layout → Size → Size → Layout
shrunk_of layout requested full =
    cond (ne requested.w full.w || ne requested.h full.h) (set_elements_of layout (map (scaled_rect_of requested full) (elements_of layout))) layout

unfoldable pub analog_default_of : Float → Float → Layout
analog_default_of w h =
    let full = size (max_of w k360) (max_of h k360) in
    let layout = shrunk_of (analog_full_of full.w full.h) (size w h) full in
    try_band_of (finished_of layout w h) w h true (new_of k0 k0 w h)

unfoldable pub psp_of : Float → Float → Layout
psp_of w h = psp_inputs_of (analog_default_of w h)
