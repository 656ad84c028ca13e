-- Every arrangement that may be chosen is in range, on screens up to 8192 by 8192.
use mathlib.Core.Bool.{Bool, true, false, not}
use mathlib.Core.List.{List, []}
use lib.Dec.{T}
use lib.Ieee.{Float}
use Rattle.prelude.proofs.Booleans.{either}
use Rattle.prelude.specs.Each.{Each}
use Rattle.float.specs.Float.{k1}
use Rattle.geometry.specs.declared.Rect.{Rect}
use Rattle.geometry.specs.Offset.{centred}
use Rattle.layout.specs.declared.Layout.{Layout}
use Rattle.layout.specs.Labels.{Holds, OfMode}
use Rattle.layout.proofs.LabelLaws.{mode_holds}
use Rattle.numerics.specs.Rects.{Element, Area}
use Rattle.numerics.specs.Range.{In, at}
use Rattle.numerics.proofs.Ranges.{from_zero, area_side}
use Rattle.layout_ranges.specs.Bounded.{Bounded, Shrunk}
use Rattle.layout_ranges.proofs.Changes.{shrunk_bounded, arranged_shrunk, anchored_shrunk}
use Rattle.search.proofs.Layouts.{place_bounded}
use Rattle.search.specs.Search.{aspect_of}
use Rattle.toolbar.proofs.ToolbarRanges.{anchored_in, reusable_in}
use Rattle.band.proofs.BandRanges.{band_in}
use Rattle.band.proofs.BandLabels.{band_formed}
use Rattle.defaults.proofs.DefaultRanges.{default_in_lem, analog_in, psp_default_in}
use Rattle.cutouts.specs.Cutouts.{avoid_cutouts_of}
use Rattle.cutouts.proofs.CutoutRanges.{avoid_bounded}
use Rattle.camera_rails.proofs.CameraRanges.{camera_bounded, camera_in}
use Rattle.picture.proofs.PictureRanges.{controls_in}
use Rattle.arrangement_choice.specs.Choice.{start_of, around_of, band_or_rails_of, first_of, area_of, arrangement_of}
use Rattle.arrangement_choice.proofs.ChoiceCases.{found_case, band_or_rails_case}
use Rattle.arrangement_choice.proofs.MaximumRanges.{largest_in, below_toolbar_in}

module _ {w h : Float} (W : In w (at 1) (at 8192)) (H : In h (at 1) (at 8192)) where
  pub avoid_in : (cutouts : List Rect) (l : Layout) → Holds l → Bounded l → Bounded (avoid_cutouts_of l w h cutouts)
  avoid_in cutouts l K L = avoid_bounded (from_zero W) (from_zero H) l cutouts K.controls K.sticks L

  module _ {picture : Rect} (A : Area picture) where
    module _ (cutouts : List Rect) (O : Each Element cutouts) where
      start_in : (marked psp : Bool) → Shrunk (start_of marked psp w h cutouts picture)
      unfolding start_of
      start_in marked true = psp_default_in W H
      start_in true false = analog_in W H
      start_in false false = arranged_shrunk (default_in_lem cutouts (from_zero W) (from_zero H) O A (area_side A.h A.h0))

      pub first_in : (marked psp maximum : Bool) → Shrunk (first_of marked psp maximum w h cutouts picture)
      unfolding first_of
      first_in marked psp maximum = let S = start_in marked psp in either Shrunk maximum (anchored_shrunk (anchored_in _ cutouts (from_zero W) (from_zero H) (reusable_in A) O S)) S

      module _ (analog psp : Bool) (first : Layout) (F : Shrunk first) (f : OfMode analog psp first) where
        band_or_rails_bounded : Bounded (band_or_rails_of first analog psp w h cutouts picture)
        band_or_rails_bounded =
            band_or_rails_case psp w h cutouts picture Bounded (λ m. Shrunk m × OfMode analog psp m) (λ m d. shrunk_bounded d.0)
            (λ m d. place_bounded (avoid_in cutouts m (mode_holds analog psp m d.1) (shrunk_bounded d.0)) picture false k1 centred (aspect_of psp)) analog (F, f)
            (λ m e. (arranged_shrunk (band_in analog psp (from_zero W) (from_zero H) A m e), band_formed w h analog psp picture m e)) (λ t. camera_bounded W H A psp cutouts O)

        pub arrangement_bounded : (maximum plain : Bool) → Bounded (arrangement_of first analog psp maximum plain w h cutouts (area_of first maximum picture))
        unfolding arrangement_of area_of around_of
        arrangement_bounded true plain =
            let L = shrunk_bounded F in
            either Bounded plain (found_case Bounded _ L (controls_in W H analog psp cutouts (largest_in psp (below_toolbar_in F A)))) L
        arrangement_bounded false plain = either Bounded plain band_or_rails_bounded (shrunk_bounded F)

    -- ---- with no cutouts no element moves
    band_or_rails_in : (analog psp : Bool) {first : Layout} → Shrunk first → Shrunk (band_or_rails_of first analog psp w h [] picture)
    unfolding avoid_cutouts_of
    band_or_rails_in analog psp F =
        band_or_rails_case psp w h [] picture Shrunk Shrunk (λ m d. d) (λ m d. place_bounded d picture false k1 centred (aspect_of psp)) analog F (λ m e. arranged_shrunk (band_in analog psp (from_zero W) (from_zero H) A m e)) (λ t. camera_in W H A psp)

    pub arrangement_in : (analog psp maximum plain : Bool) {first : Layout} → T (not maximum) → Shrunk first → Shrunk (arrangement_of first analog psp maximum plain w h [] (area_of first maximum picture))
    unfolding arrangement_of area_of
    arrangement_in analog psp true plain t F = absurd t
    arrangement_in analog psp false plain t F = either Shrunk plain (band_or_rails_in analog psp F) F
