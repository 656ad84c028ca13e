-- `Layout::analog_camera_rails` of input.rs: rails beside a picture of full height, with a camera between the digital well and the stick.
use Rattle.std.specs.Prelude.{Bool, false, cond, ◌&&◌, ◌||◌, Float, Option, Some, None}
use mathlib.Core.List.{List, [], ◌∷◌, foldl}
use Rattle.std.specs.Float.Ieee.{lt, le}
use Rattle.prelude.specs.Lists.{filter_map}
use Rattle.float.specs.Float.{◌⊕◌, ◌⊖◌, ◌⊗◌, ◌⊘◌, k0, k1, k1_35, k2, k3, k4, k8, k24, k32, k48, k52, k104, k122, k128, k156, k184, k224, k272, k360, k480}
use Rattle.float.specs.MinMax.{min_of}
use Rattle.geometry.specs.declared.Rect.{Rect}
use Rattle.geometry.specs.Rect.{new_of}
use Rattle.geometry.specs.Offset.{centred}
use Rattle.layout.specs.declared.Layout.{Layout}
use Rattle.layout.specs.Layout.{with_dpad, with_sticks, elements_of}
use Rattle.layout.specs.Psp.{with_inputs_of}
use Rattle.search.specs.Search.{place_game_in_aspect_of, aspect_of}
use Rattle.toolbar.specs.Toolbar.{anchor_toolbar_of, reusable_top_of}
use Rattle.places.specs.declared.Places.{Places}
use Rattle.places.specs.Places.{well_faces_of, placed_of}
use Rattle.defaults.specs.Defaults.{analog_default_of}
use Rattle.cutouts.specs.Cutouts.{hits_of, avoid_cutouts_of}

-- what the picture of full height leaves at each side
unfoldable pub measure_rail_of : Float → Rect → Bool → Float
measure_rail_of w picture psp =
    let fullHeightWidth = cond psp (picture.h ⊗ k480 ⊘ k272) (picture.h ⊗ k4 ⊘ k3) in
    (w ⊖ fullHeightWidth) ⊘ k2

-- below the compact toolbar and a gap
abbrev pub rail_top : Float
rail_top = k32

abbrev pub stick : Float
stick = k128

abbrev pub outer : Float
outer = k4

-- a cutout reaches below the top of a rail
unfoldable pub in_rail_of : Float → Float → Rect → Bool
in_rail_of w rail c = lt rail_top (c.y ⊕ c.h) && (lt c.x rail || lt (w ⊖ rail) (c.x ⊕ c.w))

-- where the highest of these cutouts begins, else the screen's end
unfoldable pub camera_top_of : Float → Float → Float → List Rect → Float
camera_top_of w h rail cutouts = foldl min_of h (filter_map (in_rail_of w rail) (λ c. c.y) cutouts)

-- the digital well, above the camera and above the four keys
unfoldable pub size_face_of : Float → Float → Float → List Rect → Float
size_face_of w h rail cutouts =
    min_of (min_of (min_of (rail ⊖ k8) k184) (camera_top_of w h rail cutouts ⊖ rail_top ⊖ k8)) (h ⊖ rail_top ⊖ k224)

-- the keys lie beside the stick, out of the thumb's way
unfoldable pub camera_places_of : Float → Float → Float → Places
camera_places_of w rail face =
    let auxiliaryY = rail_top ⊕ face ⊕ k8 in
    let inner = rail ⊖ k48 in
    let right = w ⊖ inner ⊖ k48 in
    record {
      faces = well_faces_of (w ⊖ outer ⊖ face ⊘ k2) (rail_top ⊕ face ⊘ k2) face;
      l1 = new_of inner (auxiliaryY ⊕ k52) k48 k48;
      l2 = new_of inner auxiliaryY k48 k48;
      r2 = new_of right auxiliaryY k48 k48;
      r1 = new_of right (auxiliaryY ⊕ k52) k48 k48;
      select = new_of inner (auxiliaryY ⊕ k104) k48 k48;
      start = new_of right (auxiliaryY ⊕ k104) k48 k48;
      l3 = new_of inner (auxiliaryY ⊕ k156) k48 k48;
      r3 = new_of right (auxiliaryY ⊕ k156) k48 k48;
    }

-- The sticks of `analog_default` are two, and stay so.
unfoldable pub camera_railed_of : Float → Float → Float → Float → Layout
camera_railed_of w h rail face =
    let mainY = h ⊖ k24 ⊖ stick in
    let layout = with_dpad (placed_of (analog_default_of w h) (camera_places_of w rail face)) (new_of outer rail_top face face) in
    with_sticks layout (new_of outer mainY stick stick ∷ new_of (w ⊖ outer ⊖ stick) mainY stick stick ∷ [])

-- with the inputs of a psp, and the toolbar in its place
unfoldable pub anchored_rails_of : Float → Float → Rect → List Rect → Bool → Float → Float → Layout
anchored_rails_of w h picture cutouts psp rail face =
    anchor_toolbar_of (with_inputs_of (camera_railed_of w h rail face) psp) w h (reusable_top_of picture) k0 cutouts

-- clear of the cutouts, with the largest game that is clear of all elements
abbrev pub cleared_of : Layout → Float → Float → Rect → List Rect → Bool → Layout
cleared_of l w h picture cutouts psp = place_game_in_aspect_of (avoid_cutouts_of l w h cutouts) picture false k1 centred (aspect_of psp)

-- None, where the rails have no room or an element overlaps a cutout, one without an area too.
unfoldable pub analog_camera_rails_of : Float → Float → Rect → List Rect → Bool → Option Layout
analog_camera_rails_of w h picture cutouts psp =
    let rail = measure_rail_of w picture psp in
    let face = size_face_of w h rail cutouts in
    let layout = anchored_rails_of w h picture cutouts psp rail face in
    cond (le w (h ⊗ k1_35) || lt h k360) None
    (cond (lt rail k184) None
    (cond (lt face k122) None
    (cond (hits_of (elements_of layout) cutouts) None
    (Some (cleared_of layout w h picture cutouts psp)))))
