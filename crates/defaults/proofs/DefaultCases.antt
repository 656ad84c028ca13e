-- What holds of each arrangement holds of the default layout that is chosen among them.
use mathlib.Core.Bool.{Bool, true, false, ◌&&◌}
use mathlib.Core.List.{List}
use lib.Ieee.{Float, lt, le}
use Rattle.prelude.proofs.Booleans.{either}
use Rattle.float.specs.Float.{◌⊕◌, ◌⊖◌, ◌⊗◌, ◌⊘◌, k0_01, k1_35, k2, k8, k16, k160, k304}
use Rattle.geometry.specs.declared.Rect.{Rect}
use Rattle.layout.specs.declared.Layout.{Layout}
use Rattle.layout.proofs.Found.{Given, maybe_case}
use Rattle.arranged.specs.Arranged.{arranged_of, side_rails_of}
use Rattle.band.specs.Band.{controller_band_of}
use Rattle.defaults.specs.Defaults.{wider_of, wider_if, clear_game_of, try_dock_of, try_side_of, try_band_of, default_in_of}

module _ (C : Layout → Type 0) where
  wider_case : {l m : Layout} → C l → C m → C (wider_of l m)
  unfolding wider_of
  wider_case {l} {m} p q = either C (lt (l.game.w ⊕ k0_01) m.game.w) q p

  pub band_case : {l : Layout} (w h : Float) (analog : Bool) (picture : Rect) → C l → Given C (controller_band_of w h analog false picture) → C (try_band_of l w h analog picture)
  unfolding try_band_of
  band_case {l} w h analog picture p q = maybe_case (λ o. C (wider_if l o)) _ p (λ band e. wider_case p (q band e))

  module _ (w h : Float) (cutouts : List Rect) (picture : Rect) where
    pub default_case : ((compact : Bool) → C (clear_game_of (arranged_of w h compact) picture)) → C (clear_game_of (side_rails_of w h picture.h cutouts) picture)
        → Given C (controller_band_of w h false false picture) → C (default_in_of w h cutouts picture)
    unfolding default_in_of try_dock_of try_side_of
    default_case p q r =
        let rails = clear_game_of (arranged_of w h false) picture in
        let docked = either C (le k160 rails.dpad.w && le (k2 ⊗ ((rails.dpad.w ⊖ k8) ⊘ k2) ⊕ k16) (w ⊖ k2 ⊗ (k16 ⊕ rails.dpad.w))) (wider_case (p false) (p true)) (p false) in
        band_case w h false picture (either C (lt (h ⊗ k1_35) w && le k304 h) (wider_case docked q) docked) r
