-- What holds of the layout that `analog_camera_rails` makes, once the rail and the digital well passed their tests, holds of the one that it gives.
use mathlib.Core.Bool.{Bool, not, ◌||◌}
use mathlib.Core.List.{List}
use lib.Dec.{T}
use lib.Ieee.{Float, lt, le}
use Rattle.float.specs.Float.{◌⊗◌, k1_35, k122, k184, k360}
use Rattle.geometry.specs.declared.Rect.{Rect}
use Rattle.layout.specs.declared.Layout.{Layout}
use Rattle.layout.specs.Layout.{elements_of}
use Rattle.layout.proofs.Found.{Given, given, guard}
use Rattle.cutouts.specs.Cutouts.{hits_of}
use Rattle.camera_rails.specs.CameraRails.{measure_rail_of, size_face_of, anchored_rails_of, cleared_of, analog_camera_rails_of}

module _ (w h : Float) (picture : Rect) (cutouts : List Rect) (psp : Bool) where
  abbrev pub camera_rail : Float
  camera_rail = measure_rail_of w picture psp

  abbrev pub camera_face : Float
  camera_face = size_face_of w h camera_rail cutouts

  abbrev pub camera_layout : Layout
  camera_layout = anchored_rails_of w h picture cutouts psp camera_rail camera_face

  pub camera_case : (C : Layout → Type 0) → (T (not (lt camera_rail k184)) → T (not (lt camera_face k122)) → C (cleared_of camera_layout w h picture cutouts psp))
      → Given C (analog_camera_rails_of w h picture cutouts psp)
  unfolding analog_camera_rails_of
  camera_case C f =
      guard C (le w (h ⊗ k1_35) || lt h k360) (λ s. guard C (lt camera_rail k184) (λ r. guard C (lt camera_face k122) (λ t. guard C (hits_of (elements_of camera_layout) cutouts) (λ u. given C (f r t)))))
