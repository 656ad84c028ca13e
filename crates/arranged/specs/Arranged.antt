-- `Layout::arranged` and `Layout::side_rails` of input.rs.
use Rattle.std.specs.Prelude.{Bool, false, cond, ◌||◌, Float}
use mathlib.Core.List.{List, [], foldl}
use Rattle.std.specs.Float.Ieee.{lt}
use Rattle.float.specs.Float.{◌⊕◌, ◌⊖◌, ◌⊗◌, ◌⊘◌, k0, k0_4, k1, k2, k3, k4, k8, k16, k20, k24, k32, k48, k56, k64, k76, k80, k84, k96, k100, k112, k122, k128, k140, k160, k168, k196, k200, k224}
use Rattle.float.specs.MinMax.{min_of, max_of, clamp_of}
use Rattle.geometry.specs.declared.Rect.{Rect}
use Rattle.geometry.specs.Rect.{new_of, empty_rect, overlaps_of}
use Rattle.geometry.specs.Offset.{centred}
use Rattle.layout.specs.declared.Layout.{Layout}
use Rattle.layout.specs.Layout.{with_dpad}
use Rattle.search.specs.Search.{place_game_of}
use Rattle.toolbar.specs.Toolbar.{anchor_toolbar_of}
use Rattle.places.specs.declared.Faces.{Faces}
use Rattle.places.specs.declared.Places.{Places}
use Rattle.places.specs.Places.{place_faces_of, well_faces_of, standard_controller_of, placed_of}

-- with the toolbar at its place
abbrev pub anchored_of : Layout → Float → Float → Layout
anchored_of l w h = anchor_toolbar_of l w h k0 k0 []

-- and the largest game that is clear of all elements: what arrangements end with
unfoldable pub finished_of : Layout → Float → Float → Layout
finished_of l w h = place_game_of (anchored_of l w h) w h false k1 centred

-- ---- `arranged`: the controls in a dock of their own below the picture

-- The faces, the shoulders and the system keys, these two between the wells where the dock is compact, else above and below
-- them: the two loops of the Rust.
unfoldable pub dock_places_of : Float → Float → Bool → Float → Rect → Faces → Places
dock_places_of w h compact cluster dpad faces =
    let shoulderWidth = (cluster ⊖ k8) ⊘ k2 in
    let leftColumn = dpad.x ⊕ cluster ⊕ k8 in
    let rightColumn = w ⊖ k16 ⊖ cluster ⊖ k8 ⊖ shoulderWidth in
    let y1 = cond compact (dpad.y ⊕ k56) (dpad.y ⊖ k56) in
    let y2 = cond compact (dpad.y ⊕ k0) (dpad.y ⊖ k56) in
    let systemY = h ⊖ cond compact k56 k64 in
    record {
      faces = faces;
      l1 = new_of (cond compact leftColumn k16) y1 shoulderWidth k48;
      l2 = new_of (cond compact leftColumn (k24 ⊕ shoulderWidth)) y2 shoulderWidth k48;
      r2 = new_of (cond compact rightColumn (w ⊖ k16 ⊖ cluster)) y2 shoulderWidth k48;
      r1 = new_of (cond compact rightColumn (w ⊖ k16 ⊖ shoulderWidth)) y1 shoulderWidth k48;
      select = new_of (cond compact leftColumn (max_of (w ⊘ k2 ⊖ k196) k16)) systemY k96 k48;
      start = new_of (cond compact rightColumn (min_of (w ⊘ k2 ⊕ k100) (w ⊖ k112))) systemY k96 k48;
      l3 = empty_rect;
      r3 = empty_rect;
    }

-- The layout before the toolbar and the game are put in place. The Rust sets the toolbar's keys here too; they are anchored
-- anew before anything looks at them.
unfoldable pub docked_of : Float → Float → Bool → Layout
docked_of w h compact =
    let cluster = min_of (clamp_of (w ⊘ k2 ⊖ k20) k128 k224) (max_of (h ⊖ k140) k128) in
    let size = clamp_of (cluster ⊗ k0_4) k48 k84 in
    -- Triangle and Cross keep a gap in the compact dock too.
    let wellHeight = cond compact (max_of (min_of cluster k200) (size ⊗ k2 ⊕ k16)) cluster in
    let offset = (cluster ⊖ size) ⊘ k2 in
    let fy = h ⊖ cond compact k32 k76 ⊖ wellHeight ⊘ k2 in
    let fx = w ⊖ k16 ⊖ cluster ⊘ k2 in
    let dpad = new_of k16 (fy ⊖ wellHeight ⊘ k2) cluster wellHeight in
    let vertical = (wellHeight ⊖ size) ⊘ k2 in
    standard_controller_of (dock_places_of w h compact cluster dpad (place_faces_of fx fy offset vertical size)) dpad

unfoldable pub arranged_of : Float → Float → Bool → Layout
arranged_of w h compact = finished_of (docked_of w h compact) w h

-- ---- `side_rails`: the wells in rails beside a picture of full height

-- what lies below the controls, here and in `controller_band`
abbrev pub bottom : Float
bottom = k4

-- where the controls lie about wells of a width that begin at mainY
unfoldable pub rail_places_of : Float → Float → Float → Places
rail_places_of w mainY cluster =
    let fx = w ⊖ k16 ⊖ cluster ⊘ k2 in
    let fy = mainY ⊕ cluster ⊘ k2 in
    let shoulder = min_of ((cluster ⊖ k8) ⊘ k2) k64 in
    let shoulderX = k16 ⊕ cluster ⊖ k2 ⊗ shoulder ⊖ k8 in
    let shoulderY = mainY ⊖ k112 in
    let systemY = mainY ⊖ k56 in
    let systemX = k16 ⊕ cluster ⊖ k80 in
    record {
      faces = well_faces_of fx fy cluster;
      l1 = new_of shoulderX shoulderY shoulder k48;
      l2 = new_of (shoulderX ⊕ shoulder ⊕ k8) shoulderY shoulder k48;
      r2 = new_of (w ⊖ shoulderX ⊖ k2 ⊗ shoulder ⊖ k8) shoulderY shoulder k48;
      r1 = new_of (w ⊖ shoulderX ⊖ shoulder) shoulderY shoulder k48;
      select = new_of systemX systemY k80 k48;
      start = new_of (w ⊖ systemX ⊖ k80) systemY k80 k48;
      l3 = empty_rect;
      r3 = empty_rect;
    }

unfoldable pub railed_of : Float → Float → Float → Layout
railed_of w h cluster =
    let mainY = h ⊖ bottom ⊖ cluster in
    finished_of (with_dpad (placed_of (arranged_of w h false) (rail_places_of w mainY cluster)) (new_of k16 mainY cluster cluster)) w h

unfoldable pub requested_of : Float → Float → Float → Float
requested_of w h pictureHeight =
    let pictureClearance = max_of ((w ⊖ pictureHeight ⊗ k4 ⊘ k3) ⊘ k2 ⊖ k16) k160 in
    min_of (clamp_of (h ⊖ k168) k122 k200) pictureClearance

-- what one cutout leaves of the wells' width: both sides give way alike
unfoldable pub give_way_of : Float → Float → Float → Float → Rect → Float
give_way_of w h requested cluster c =
    let y = h ⊖ bottom ⊖ requested in
    let left = new_of k16 y requested requested in
    let right = new_of (w ⊖ k16 ⊖ requested) y requested requested in
    cond (overlaps_of left c || overlaps_of right c) (min_of cluster (h ⊖ bottom ⊖ c.y ⊖ c.h ⊖ k8)) cluster

-- what all cutouts leave of it
unfoldable pub cluster_of : Float → Float → Float → List Rect → Float
cluster_of w h pictureHeight cutouts = let requested = requested_of w h pictureHeight in foldl (give_way_of w h requested) requested cutouts

-- `arranged` stands in where a camera leaves the rails no room.
unfoldable pub side_rails_of : Float → Float → Float → List Rect → Layout
side_rails_of w h pictureHeight cutouts =
    let cluster = cluster_of w h pictureHeight cutouts in
    cond (lt cluster k122) (arranged_of w h false) (railed_of w h cluster)
