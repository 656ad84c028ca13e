-- Every arrangement that may be chosen has the labels, the counts and the arrays of its mode.
use mathlib.Core.Bool.{Bool, true, false, ◌||◌, or-true}
use mathlib.Core.List.{List}
use lib.Dec.{T}
use lib.Ieee.{Float}
use Rattle.prelude.proofs.Booleans.{either, or_r}
use Rattle.float.specs.Float.{k0, k1}
use Rattle.geometry.specs.declared.Rect.{Rect}
use Rattle.geometry.specs.Offset.{centred}
use Rattle.layout.specs.declared.Layout.{Layout}
use Rattle.layout.specs.Labels.{OfMode}
use Rattle.search.specs.Search.{aspect_of}
use Rattle.search.proofs.GameLabels.{place_mode}
use Rattle.toolbar.specs.Toolbar.{reusable_top_of}
use Rattle.toolbar.proofs.ToolbarLabels.{anchor_mode}
use Rattle.band.proofs.BandLabels.{band_formed}
use Rattle.defaults.proofs.DefaultLabels.{default_formed, analog_formed, psp_formed}
use Rattle.cutouts.proofs.CutoutLabels.{avoid_mode}
use Rattle.camera_rails.proofs.CameraLabels.{camera_rails_formed}
use Rattle.picture.proofs.PictureLabels.{controls_formed}
use Rattle.arrangement_choice.specs.Choice.{start_of, largest_of, around_of, band_or_rails_of, first_of, arrangement_of}
use Rattle.arrangement_choice.proofs.ChoiceCases.{found_case, band_or_rails_case}

module _ (w h : Float) (cutouts : List Rect) (picture : Rect) where
  pub start_mode : (marked psp : Bool) → OfMode (marked || psp) psp (start_of marked psp w h cutouts picture)
  unfolding start_of
  start_mode marked true = rw (or-true marked) (psp_formed w h)
  start_mode true false = analog_formed w h
  start_mode false false = default_formed w h cutouts picture

module _ (w h : Float) (cutouts : List Rect) (area : Rect) where
  band_or_rails_mode : (analog psp : Bool) (l : Layout) → OfMode analog psp l → OfMode analog psp (band_or_rails_of l analog psp w h cutouts area)
  band_or_rails_mode analog psp l f =
      band_or_rails_case psp w h cutouts area (OfMode analog psp) (OfMode analog psp) (λ m g. g)
      (λ m g. place_mode analog psp _ (avoid_mode analog psp m g w h cutouts) area false k1 centred (aspect_of psp)) analog f
      (band_formed w h analog psp area) (λ t. rw t (camera_rails_formed w h area cutouts psp))

  around_mode : (analog psp : Bool) → (T psp → T analog) → (l : Layout) → OfMode analog psp l → OfMode analog psp (around_of l analog psp w h cutouts area)
  unfolding around_of
  around_mode analog psp k l f = found_case (OfMode analog psp) _ f (controls_formed w h (largest_of area (aspect_of psp)) analog psp cutouts k)

module _ (marked psp maximum : Bool) (w h : Float) (cutouts : List Rect) (picture : Rect) where
  pub first_mode : OfMode (marked || psp) psp (first_of marked psp maximum w h cutouts picture)
  unfolding first_of
  first_mode =
      let start = start_of marked psp w h cutouts picture in
      let f = start_mode w h cutouts picture marked psp in
      either (OfMode (marked || psp) psp) maximum (anchor_mode (marked || psp) psp start f w h (reusable_top_of picture) k0 cutouts) f

  pub arrangement_mode : (area : Rect) (plain : Bool) → OfMode (marked || psp) psp (arrangement_of (first_of marked psp maximum w h cutouts picture) (marked || psp) psp maximum plain w h cutouts area)
  unfolding arrangement_of
  arrangement_mode area plain =
      let analog = marked || psp in
      let first = first_of marked psp maximum w h cutouts picture in
      let around = around_mode w h cutouts area analog psp (or_r marked psp) first first_mode in
      let banded = band_or_rails_mode w h cutouts area analog psp first first_mode in
      either (OfMode analog psp) plain (either (OfMode analog psp) maximum around banded) first_mode
