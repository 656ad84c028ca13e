-- Inner functions of the code that the Rust does not have: controls whose toolbar and game are put in place afterwards. `docked_of` has those of
-- `arranged`; finished, these are `side_rails` (`side_finished` of ControlLaws).
use Rattle.std.specs.Prelude.{false, cond, List, Float}
use Rattle.std.specs.Float.Ieee.{lt}
use Rattle.float.specs.Float.{◌⊖◌, k16, k122}
use Rattle.geometry.specs.declared.Rect.{Rect}
use Rattle.geometry.specs.Rect.{new_of, empty_rect}
use Rattle.layout.specs.declared.Layout.{Layout}
use Rattle.layout.specs.Layout.{with_game, with_toolbar}
use Rattle.places.specs.Places.{standard_controller_of}
use Rattle.arranged.specs.Arranged.{bottom, docked_of, rail_places_of, cluster_of}

-- the layout without toolbar and game
abbrev pub bare_of : Layout → Layout
bare_of l = with_game (with_toolbar l empty_rect empty_rect empty_rect empty_rect) empty_rect

unfoldable pub rail_controls_of : Float → Float → Float → Layout
rail_controls_of w h cluster =
    let mainY = h ⊖ bottom ⊖ cluster in
    standard_controller_of (rail_places_of w mainY cluster) (new_of k16 mainY cluster cluster)

unfoldable pub side_controls_of : Float → Float → Float → List Rect → Layout
side_controls_of w h pictureHeight cutouts =
    let cluster = cluster_of w h pictureHeight cutouts in
    cond (lt cluster k122) (docked_of w h false) (rail_controls_of w h cluster)
