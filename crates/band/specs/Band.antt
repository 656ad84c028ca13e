-- `Layout::controller_band` of input.rs: mirrored controls in the room that a picture of full width leaves.
use Rattle.std.specs.Prelude.{Bool, false, cond, ◌&&◌, ◌||◌, ◌∷◌, [], ◌+◌, Float, set, Option, Some, None}
use Rattle.std.specs.Float.Ieee.{lt, le}
use Rattle.float.specs.Float.{◌⊕◌, ◌⊖◌, ◌⊗◌, ◌⊘◌, k0, k0_75, k1, k1_35, k2, k3, k4, k8, k16, k24, k28, k48, k52, k56, k64, k72, k80, k100, k104, k112, k122, k128, k136, k160, k176, k184, k192, k204, k272, k288, k480, k600, k800}
use Rattle.float.specs.MinMax.{min_of, clamp_of}
use Rattle.geometry.specs.declared.Rect.{Rect}
use Rattle.geometry.specs.Rect.{new_of, empty_rect}
use Rattle.geometry.specs.Offset.{centred}
use Rattle.layout.specs.declared.Label.TheVariants.{L3, R3}
use Rattle.layout.specs.declared.Layout.{Layout}
use Rattle.layout.specs.Layout.{control, with_controller, with_dpad}
use Rattle.layout.specs.Psp.{with_inputs_of}
use Rattle.search.specs.Search.{place_game_in_aspect_of, aspect_of}
use Rattle.toolbar.specs.Toolbar.{toolbar_height, anchor_toolbar_of, reusable_top_of}
use Rattle.places.specs.declared.Places.{Places}
use Rattle.places.specs.Places.{well_faces_of, placed_of}
use Rattle.arranged.specs.Arranged.{arranged_of, bottom}
use Rattle.band.specs.declared.Room.{Room}
use Rattle.band.specs.declared.Band.{Band}

-- the room below the whole picture and the width of a digital well in it
unfoldable pub find_room_of : Float → Float → Bool → Bool → Rect → Room
find_room_of w h analog psp picture =
    let pictureHeight = cond psp (w ⊗ k272 ⊘ k480) (w ⊗ k0_75) in
    let headroom = h ⊖ (picture.y ⊕ toolbar_height ⊕ pictureHeight) in
    let available = headroom ⊖ bottom in
    let deep = analog && le k192 headroom in
    let outer = cond deep k8 k28 in
    let widthLimit = cond analog ((w ⊖ k2 ⊗ outer ⊖ k16 ⊖ k204) ⊘ k4) ((w ⊖ k2 ⊗ outer ⊖ k288) ⊘ k2) in
    record { available = available; deep = deep; outer = outer; face = cond deep k128 (min_of (min_of available widthLimit) k184) }

unfoldable pub measure_band_of : Float → Float → Bool → Room → Band
measure_band_of w h analog room =
    let face = room.face in
    let stick = cond room.deep k176 face in
    let digitalGap = clamp_of (room.available ⊖ face ⊖ k48) k8 k16 in
    let mainY = cond room.deep (h ⊖ bottom ⊖ k48 ⊖ digitalGap ⊖ face) (h ⊖ bottom ⊖ face) in
    let digitalX = cond analog (room.outer ⊕ stick ⊕ k8) room.outer in
    record {
      w = w;
      h = h;
      outer = room.outer;
      face = face;
      stick = stick;
      digital_x = digitalX;
      main_y = mainY;
      faces = well_faces_of (w ⊖ digitalX ⊖ face ⊘ k2) (mainY ⊕ face ⊘ k2) face;
    }

-- without sticks: shoulders beside the wells, square system keys
unfoldable pub plain_places_of : Band → Places
plain_places_of b =
    let shoulderX = b.outer ⊕ b.face ⊕ k8 in
    record {
      faces = b.faces;
      l1 = new_of shoulderX b.main_y k64 k64;
      l2 = new_of (shoulderX ⊕ k72) b.main_y k64 k64;
      r1 = new_of (b.w ⊖ shoulderX ⊖ k64) b.main_y k64 k64;
      r2 = new_of (b.w ⊖ shoulderX ⊖ k136) b.main_y k64 k64;
      select = new_of (b.w ⊘ k2 ⊖ k104) (b.h ⊖ bottom ⊖ k80) k80 k80;
      start = new_of (b.w ⊘ k2 ⊕ k24) (b.h ⊖ bottom ⊖ k80) k80 k80;
      l3 = empty_rect;
      r3 = empty_rect;
    }

-- deep: a row of keys below the wells
unfoldable pub deep_places_of : Band → Places
deep_places_of b =
    let rowY = b.h ⊖ bottom ⊖ k48 in
    record {
      faces = b.faces;
      l1 = new_of b.digital_x rowY k48 k48;
      l2 = new_of (b.digital_x ⊕ k56) rowY k48 k48;
      l3 = new_of (b.digital_x ⊕ k112) rowY k48 k48;
      r1 = new_of (b.w ⊖ b.digital_x ⊖ k48) rowY k48 k48;
      r2 = new_of (b.w ⊖ b.digital_x ⊖ k104) rowY k48 k48;
      r3 = new_of (b.w ⊖ b.digital_x ⊖ k160) rowY k48 k48;
      select = new_of (b.w ⊘ k2 ⊖ k52) (rowY ⊖ k48) k48 k48;
      start = new_of (b.w ⊘ k2 ⊕ k4) (rowY ⊖ k48) k48 k48;
    }

-- else: two rows of four keys in the middle
unfoldable pub middle_places_of : Band → Places
middle_places_of b =
    let auxiliaryX = (b.w ⊖ k204) ⊘ k2 in
    let auxiliaryY = b.h ⊖ bottom ⊖ k100 in
    let upper = auxiliaryY ⊕ k0 ⊗ k52 in
    let lower = auxiliaryY ⊕ k1 ⊗ k52 in
    record {
      faces = b.faces;
      l1 = new_of (auxiliaryX ⊕ k0 ⊗ k52) upper k48 k48;
      l2 = new_of (auxiliaryX ⊕ k1 ⊗ k52) upper k48 k48;
      r2 = new_of (auxiliaryX ⊕ k2 ⊗ k52) upper k48 k48;
      r1 = new_of (auxiliaryX ⊕ k3 ⊗ k52) upper k48 k48;
      l3 = new_of (auxiliaryX ⊕ k0 ⊗ k52) lower k48 k48;
      select = new_of (auxiliaryX ⊕ k1 ⊗ k52) lower k48 k48;
      start = new_of (auxiliaryX ⊕ k2 ⊗ k52) lower k48 k48;
      r3 = new_of (auxiliaryX ⊕ k3 ⊗ k52) lower k48 k48;
    }

abbrev pub band_places_of : Bool → Bool → Band → Places
band_places_of analog deep b = cond analog (cond deep (deep_places_of b) (middle_places_of b)) (plain_places_of b)

-- L3, R3 and the two sticks added
unfoldable pub with_analog_of : Layout → Rect → Rect → Rect → Rect → Layout
with_analog_of l l3 r3 left right =
    let controls = set (set l.controls l.count (control l3 L3)) (l.count + 1) (control r3 R3) in
    with_controller l l.dpad controls (l.count + 2) (left ∷ right ∷ []) 2

abbrev pub band_dpad : Band → Rect
band_dpad b = new_of b.digital_x b.main_y b.face b.face

abbrev pub band_left_stick : Band → Rect
band_left_stick b = new_of b.outer (b.h ⊖ bottom ⊖ b.stick) b.stick b.stick

abbrev pub band_right_stick : Band → Rect
band_right_stick b = new_of (b.w ⊖ b.outer ⊖ b.stick) (b.h ⊖ bottom ⊖ b.stick) b.stick b.stick

-- the controls of `arranged` moved into the band
unfoldable pub banded_of : Float → Float → Bool → Bool → Band → Layout
banded_of w h analog deep b =
    let places = band_places_of analog deep b in
    let layout = with_dpad (placed_of (arranged_of w h false) places) (band_dpad b) in
    cond analog (with_analog_of layout places.l3 places.r3 (band_left_stick b) (band_right_stick b)) layout

unfoldable pub controller_band_of : Float → Float → Bool → Bool → Rect → Option Layout
controller_band_of w h analog psp picture =
    let room = find_room_of w h analog psp picture in
    let anchored = anchor_toolbar_of (banded_of w h analog room.deep (measure_band_of w h analog room)) w h (reusable_top_of picture) k0 [] in
    cond (lt w k800 || (lt h k600 || lt (h ⊗ k1_35) w)) None
    (cond (lt room.face k122) None
    (Some (place_game_in_aspect_of (with_inputs_of anchored psp) picture false k1 centred (aspect_of psp))))
