-- The labels, counts and arrays of `analog_camera_rails`.
use mathlib.Core.Path.{◌≡◌, refl, ◌∙◌}
use mathlib.Core.Bool.{Bool, true}
use mathlib.Core.List.{List}
use lib.Ieee.{Float}
use lib.ListN.{length}
use Rattle.geometry.specs.declared.Rect.{Rect}
use Rattle.layout.specs.declared.Layout.{Layout}
use Rattle.layout.specs.Layout.{Few}
use Rattle.layout.specs.Actions.{action_elements_of}
use Rattle.layout.specs.Labels.{analog_labels, Formed, Holds, OfMode}
use Rattle.layout.proofs.LabelLaws.{mode_faces, mode_counts, mode_holds, with_inputs_formed}
use Rattle.layout.proofs.ActionLaws.{face_count}
use Rattle.layout.proofs.Found.{Given}
use Rattle.search.specs.Search.{place_game_in_aspect_of}
use Rattle.toolbar.specs.Toolbar.{anchor_toolbar_of}
use Rattle.places.proofs.PlaceLabels.{placed_formed}
use Rattle.defaults.specs.Defaults.{analog_default_of}
use Rattle.defaults.proofs.DefaultLabels.{analog_formed}
use Rattle.cutouts.specs.Cutouts.{avoid_cutouts_of}
use Rattle.cutouts.proofs.CutoutLaws.{avoid_formed}
use Rattle.camera_rails.specs.CameraRails.{camera_places_of, camera_railed_of, anchored_rails_of, analog_camera_rails_of}
use Rattle.camera_rails.proofs.CameraCases.{camera_rail, camera_face, camera_case}

module _ (w h rail face : Float) where
  railed_formed : Formed analog_labels 2 (camera_railed_of w h rail face)
  unfolding camera_railed_of
  railed_formed =
      let g = placed_formed analog_labels 2 (analog_default_of w h) (camera_places_of w rail face) (analog_formed w h) in
      (g.0, (g.1.0, refl))

  module _ (picture : Rect) (cutouts : List Rect) where
    anchored_formed : (psp : Bool) → OfMode true psp (anchored_rails_of w h picture cutouts psp rail face)
    unfolding anchored_rails_of anchor_toolbar_of
    anchored_formed psp = with_inputs_formed true psp (camera_railed_of w h rail face) railed_formed

    module _ (psp : Bool) where
      abbrev anchored : Layout
      anchored = anchored_rails_of w h picture cutouts psp rail face

      pub anchored_faces : length (action_elements_of anchored) ≡ 4
      anchored_faces = face_count anchored _ (anchored_formed psp).0.0 ∙ mode_faces true psp

      pub anchored_holds : Holds anchored
      anchored_holds = mode_holds true psp anchored (anchored_formed psp)

      cleared_formed : OfMode true psp (avoid_cutouts_of anchored w h cutouts)
      cleared_formed = let n = mode_counts true psp anchored (anchored_formed psp).0 in avoid_formed _ _ w h anchored n.0 n.1 cutouts (anchored_formed psp)

      pub cleared_counts : Few (avoid_cutouts_of anchored w h cutouts)
      cleared_counts = mode_counts true psp (avoid_cutouts_of anchored w h cutouts) cleared_formed.0

module _ (w h : Float) (picture : Rect) (cutouts : List Rect) (psp : Bool) where
  pub camera_rails_formed : Given (OfMode true psp) (analog_camera_rails_of w h picture cutouts psp)
  unfolding place_game_in_aspect_of
  camera_rails_formed =
      camera_case w h picture cutouts psp (OfMode true psp) (λ r f. cleared_formed w h (camera_rail w h picture cutouts psp) (camera_face w h picture cutouts psp) picture cutouts psp)
