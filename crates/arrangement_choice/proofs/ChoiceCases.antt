-- What holds of each layout that a step may take holds of the one that it takes.
use mathlib.Core.Path.{◌≡◌, refl}
use mathlib.Core.Bool.{Bool, true, false, not}
use mathlib.Core.List.{List}
use Rattle.std.specs.Prelude.{Option, unwrap_or}
use lib.Dec.{T}
use lib.Ieee.{Float}
use Rattle.prelude.proofs.Booleans.{either}
use Rattle.geometry.specs.declared.Rect.{Rect}
use Rattle.layout.specs.declared.Layout.{Layout}
use Rattle.layout.proofs.Found.{Given, maybe_case}
use Rattle.band.specs.Band.{controller_band_of}
use Rattle.camera_rails.specs.CameraRails.{cleared_of, analog_camera_rails_of}
use Rattle.arrangement_choice.specs.Choice.{rails_win_of, compared_of, try_rails_of, band_or_rails_of, area_of}

module _ (C : Layout → Type 0) where
  pub found_case : {l : Layout} (o : Option Layout) → C l → Given C o → C (unwrap_or o l)
  found_case {l} o p q = maybe_case (λ o. C (unwrap_or o l)) o p q

module _ (psp : Bool) (w h : Float) (cutouts : List Rect) (area : Rect) where
  rails_case : (C : Layout → Type 0) (l : Layout) → C l → C (cleared_of l w h area cutouts psp) → Given C (analog_camera_rails_of w h area cutouts psp) → C (try_rails_of l psp w h cutouts area)
  unfolding try_rails_of
  rails_case C l p q r = maybe_case (λ o. C (compared_of l (cleared_of l w h area cutouts psp) o)) _ p (λ m e. either C (rails_win_of m (cleared_of l w h area cutouts psp)) (r m e) q)

  -- D of the layout that the rails are compared with
  pub band_or_rails_case : (C D : Layout → Type 0) → ((m : Layout) → D m → C m) → ((m : Layout) → D m → C (cleared_of m w h area cutouts psp)) → (analog : Bool) {l : Layout} → D l
      → Given D (controller_band_of w h analog psp area) → (analog ≡ true → Given C (analog_camera_rails_of w h area cutouts psp)) → C (band_or_rails_of l analog psp w h cutouts area)
  unfolding band_or_rails_of
  band_or_rails_case C D f g true p q r = let banded = found_case D _ p q in rails_case C _ (f _ banded) (g _ banded) (r refl)
  band_or_rails_case C D f g false p q r = f _ (found_case D _ p q)

-- the game gets the whole picture's area, but under Maximum
pub whole_area : (layout : Layout) (maximum : Bool) (picture : Rect) → T (not maximum) → area_of layout maximum picture ≡ picture
unfolding area_of
whole_area layout true picture t = absurd t
whole_area layout false picture t = refl
