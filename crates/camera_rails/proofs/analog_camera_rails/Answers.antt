-- By its five ways out, each after the tests before it; the counts at the last by `cleared_counts`.
use native.Mathlib.Omega.{arith}
use mathlib.Core.Path.{◌≡◌}
use lib.ListN.{length}
use borrow.Author.Rules.{rules}
use Rattle.layout.specs.Actions.{action_elements_of}
use Rattle.search.specs.Search.{place_game_in_aspect_of}
use Rattle.camera_rails.proofs.CameraLabels.{anchored_faces, cleared_counts}
use Rattle.camera_rails.specs.CameraRails.{analog_camera_rails_of}
use Rattle.layout.specs.Layout.{Few}
use Rattle.camera_rails.proofs.analog_camera_rails.Goals as goal
use Rattle.camera_rails.proofs.analog_camera_rails.Goals.{After-avoid_cutouts-clear}

cleared_few : (c : After-avoid_cutouts-clear) → Few c.avoid_cutouts-clear.result
cleared_few c = rw (c.avoid_cutouts-clear.ensures, c.anchored_rails-anchored.ensures.0) (cleared_counts _ _ _ _ _ _ _)

pub avoid_cutouts-clear-requires : goal.avoid_cutouts-clear-requires
avoid_cutouts-clear-requires c =
    let rails = c.anchored_rails-anchored in
    let faces : length (action_elements_of rails.result) ≡ 4 = rw rails.ensures.0 (anchored_faces _ _ _ _ _ _ _) in
    (rails.ensures.1, (c.requires, omega arith))

pub place_game_in_aspect-requires : goal.place_game_in_aspect-requires
place_game_in_aspect-requires c = cleared_few (goal.at.place_game_in_aspect-requires c).After-avoid_cutouts-clear

pub returns : goal.returns
unfolding analog_camera_rails_of
returns c =
    let few = cleared_few (goal.at.returns c).After-avoid_cutouts-clear in
    let played : Few c.place_game_in_aspect.result = unfold place_game_in_aspect_of in (rw c.place_game_in_aspect.ensures few) in
    search rules
