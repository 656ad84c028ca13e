-- `controller_band` puts the toolbar and the game in place, so those of `arranged` do not matter.
use mathlib.Core.Path.{◌≡◌, refl}
use mathlib.Core.Bool.{Bool, true, false}
use mathlib.Core.List.{[]}
use lib.Ieee.{Float}
use Rattle.prelude.specs.Lists.{map_first}
use Rattle.float.specs.Float.{k0, k1}
use Rattle.geometry.specs.declared.Rect.{Rect}
use Rattle.geometry.specs.Offset.{centred}
use Rattle.layout.specs.declared.Layout.{Layout}
use Rattle.layout.specs.Layout.{with_game}
use Rattle.layout.specs.Psp.{psp_inputs_of, with_inputs_of}
use Rattle.search.specs.Search.{place_game_in_aspect_of, aspect_of}
use Rattle.toolbar.specs.Toolbar.{anchor_toolbar_of}
use Rattle.places.specs.Places.{at_of, controller_of, placed_of}
use Rattle.arranged.specs.Arranged.{finished_of, dock_places_of, docked_of, arranged_of}
use Rattle.arranged.specs.Controls.{bare_of}
use Rattle.arranged.proofs.ControlLaws.{anchored_anew, game_anew}
use Rattle.band.specs.declared.Band.{Band}
use Rattle.band.specs.Band.{plain_places_of, with_analog_of, banded_of}
use Rattle.band.specs.Controls.{band_controls_of}

banded_bare : (w h : Float) (analog deep : Bool) (b : Band) → bare_of (banded_of w h analog deep b) ≡ bare_of (band_controls_of analog deep b)
unfolding banded_of band_controls_of arranged_of finished_of docked_of dock_places_of placed_of map_first at_of controller_of with_analog_of plain_places_of place_game_in_aspect_of anchor_toolbar_of
banded_bare w h true deep b = refl
banded_bare w h false deep b = refl

-- the last steps
abbrev ended_of : Bool → Rect → Layout → Layout
ended_of psp picture l = place_game_in_aspect_of (with_inputs_of l psp) picture false k1 centred (aspect_of psp)

psp_game : (psp : Bool) (picture : Rect) (l : Layout) (old : Rect) → ended_of psp picture (with_game l old) ≡ ended_of psp picture l
unfolding psp_inputs_of
psp_game true picture l old = game_anew (psp_inputs_of l) old picture false k1 centred _
psp_game false picture l old = game_anew l old picture false k1 centred _

pub band_anew : (w h : Float) (analog deep : Bool) (b : Band) (psp : Bool) (top : Float) (picture : Rect)
    → ended_of psp picture (anchor_toolbar_of (banded_of w h analog deep b) w h top k0 []) ≡ ended_of psp picture (anchor_toolbar_of (band_controls_of analog deep b) w h top k0 [])
band_anew w h analog deep b psp top picture =
    let new = band_controls_of analog deep b in
    let old = banded_of w h analog deep b in
    rw (anchored_anew w h top [] old new (banded_bare w h analog deep b)) (psp_game psp picture (anchor_toolbar_of new w h top k0 []) old.game)
