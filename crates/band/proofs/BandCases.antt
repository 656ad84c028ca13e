-- What holds of the layout that `controller_band` makes, once the room passed its test, holds of the one that it gives.
use mathlib.Core.Bool.{Bool, false, not, ◌||◌}
use mathlib.Core.List.{[]}
use lib.Dec.{T}
use lib.Ieee.{Float, lt}
use Rattle.float.specs.Float.{◌⊗◌, k0, k1, k1_35, k122, k600, k800}
use Rattle.geometry.specs.declared.Rect.{Rect}
use Rattle.geometry.specs.Offset.{centred}
use Rattle.layout.specs.declared.Layout.{Layout}
use Rattle.layout.proofs.Found.{Given, given, guard}
use Rattle.layout.specs.Psp.{with_inputs_of}
use Rattle.search.specs.Search.{place_game_in_aspect_of, aspect_of}
use Rattle.toolbar.specs.Toolbar.{anchor_toolbar_of, reusable_top_of}
use Rattle.band.specs.declared.Room.{Room}
use Rattle.band.specs.Band.{find_room_of, measure_band_of, banded_of, controller_band_of}

module _ (w h : Float) (analog psp : Bool) (picture : Rect) where
  abbrev pub band_room : Room
  band_room = find_room_of w h analog psp picture

  abbrev pub band_layout : Layout
  band_layout = banded_of w h analog band_room.deep (measure_band_of w h analog band_room)

  abbrev pub band_anchored : Layout
  band_anchored = anchor_toolbar_of band_layout w h (reusable_top_of picture) k0 []

  abbrev made : Layout
  made = place_game_in_aspect_of (with_inputs_of band_anchored psp) picture false k1 centred (aspect_of psp)

  pub controller_band_case : (C : Layout → Type 0) → (T (not (lt band_room.face k122)) → C made) → Given C (controller_band_of w h analog psp picture)
  unfolding controller_band_of
  controller_band_case C f = guard C (lt w k800 || (lt h k600 || lt (h ⊗ k1_35) w)) (λ s. guard C (lt band_room.face k122) (λ t. given C (f t)))
