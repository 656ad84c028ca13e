-- The labels, counts and arrays of `controller_band`.
use mathlib.Core.Path.{◌≡◌, refl, ap, ◌∙◌}
use mathlib.Core.Bool.{Bool, true, false}
use mathlib.Core.List.{List, [], ◌∷◌, ◌++◌, map, map-append}
use Prim.Native.Nat.{◌+◌, ◌≤◌}
use native.Mathlib.Omega.{arith}
use lib.Ieee.{Float}
use lib.ListN.{length, length-set}
use Rattle.prelude.proofs.Stores.{take_store}
use Rattle.geometry.specs.declared.Rect.{Rect}
use Rattle.layout.specs.declared.Control.{Control}
use Rattle.layout.specs.declared.Label.{Label}
use Rattle.layout.specs.declared.Label.TheVariants.{L3, R3}
use Rattle.layout.specs.declared.Layout.{Layout}
use Rattle.layout.specs.Labels.{standard_labels, analog_labels, Formed, OfMode}
use Rattle.layout.proofs.LabelLaws.{with_inputs_formed}
use Rattle.layout.specs.Layout.{control, control_list}
use Rattle.layout.proofs.Found.{Given}
use Rattle.search.specs.Search.{place_game_in_aspect_of}
use Rattle.toolbar.specs.Toolbar.{anchor_toolbar_of}
use Rattle.places.proofs.PlaceLabels.{placed_formed}
use Rattle.arranged.specs.Arranged.{arranged_of}
use Rattle.arranged.proofs.ArrangedLabels.{arranged_formed}
use Rattle.band.specs.declared.Band.{Band}
use Rattle.band.specs.Band.{measure_band_of, with_analog_of, banded_of, controller_band_of}
use Rattle.band.proofs.BandCases.{band_room, band_anchored, controller_band_case}

-- L3 and R3 after the other controls
pub with_analog_controls : (l : Layout) (l3 r3 left right : Rect) → l.count + 2 ≤ length l.controls → control_list (with_analog_of l l3 r3 left right) ≡ control_list l ++ (control l3 L3 ∷ control r3 R3 ∷ [])
unfolding with_analog_of
with_analog_controls l l3 r3 left right h =
    let first : l.count + 0 ≡ l.count = omega arith in
    rw first at (take_store l.controls _ (control l3 L3 ∷ control r3 R3 ∷ []) l.count 0 2 (l.count + 2) refl (omega arith) (omega arith) (omega arith))

pub with_analog_formed : (l : Layout) (l3 r3 left right : Rect) → Formed standard_labels 0 l → Formed analog_labels 2 (with_analog_of l l3 r3 left right)
unfolding with_analog_of
with_analog_formed l l3 r3 left right f =
    let n = f.0.1 in
    let m = f.1.0 in (
      (
        ap (map (λ (c : Control). c.label)) (with_analog_controls l l3 r3 left right (omega arith)) ∙ map-append (λ (c : Control). c.label) (control_list l) _ ∙ ap (λ (t : List Label). t ++ (L3 ∷ R3 ∷ [])) f.0.0,
        omega arith,
        refl,
      ),
      (rw (length-set, length-set) m, refl),
    )

banded_formed : (w h : Float) (analog deep : Bool) (b : Band) → OfMode analog false (banded_of w h analog deep b)
unfolding banded_of
banded_formed w h true deep b = with_analog_formed _ _ _ _ _ (placed_formed standard_labels 0 (arranged_of w h false) _ (arranged_formed w h false))
banded_formed w h false deep b = placed_formed standard_labels 0 (arranged_of w h false) _ (arranged_formed w h false)

pub band_formed : (w h : Float) (analog psp : Bool) (picture : Rect) → Given (OfMode analog psp) (controller_band_of w h analog psp picture)
unfolding place_game_in_aspect_of anchor_toolbar_of
band_formed w h analog psp picture =
    let room = band_room w h analog psp picture in
    controller_band_case w h analog psp picture (OfMode analog psp)
    (λ t. with_inputs_formed analog psp (band_anchored w h analog psp picture) (banded_formed w h analog room.deep (measure_band_of w h analog room)))
