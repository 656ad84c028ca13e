-- What is computed and then replaced does not matter: the game that `finished` places on the whole screen, where another takes its place,
-- and of `Layout::new` all but the labels.
use mathlib.Core.Path.{◌≡◌, refl}
use mathlib.Core.List.{[]}
use lib.Ieee.{Float}
use Rattle.float.specs.Float.{k0}
use Rattle.geometry.specs.declared.Rect.{Rect}
use Rattle.geometry.specs.Rect.{new_of}
use Rattle.layout.specs.declared.Layout.{Layout}
use Rattle.layout.specs.Layout.{elements_of}
use Rattle.search.specs.Search.{place_game_in_aspect_of}
use Rattle.arranged.specs.Arranged.{anchored_of, finished_of}
use Rattle.arranged.specs.Controls.{bare_of}
use Rattle.arranged.proofs.ControlLaws.{finished_anew}
use Rattle.defaults.specs.declared.Size.{Size}
use Rattle.defaults.specs.Controls.{analog_controls_of}
use Rattle.defaults.proofs.ControlLaws.{added_bare, shrunk_bare}
use Rattle.defaults.specs.Defaults.{clear_game_of, new_layout_of, analog_full_of, shrunk_of}
use Rattle.defaults.proofs.DefaultLabels.{default_formed}

pub clear_anew : (l : Layout) (w h : Float) (picture : Rect) → clear_game_of (finished_of l w h) picture ≡ clear_game_of (anchored_of l w h) picture
unfolding finished_of place_game_in_aspect_of elements_of
clear_anew l w h picture = refl

module _ (w h : Float) where
  full_bare : bare_of (analog_full_of w h) ≡ analog_controls_of w h
  unfolding analog_full_of analog_controls_of
  full_bare = added_bare _ _ _ _ (new_layout_of w h) (default_formed w h [] (new_of k0 k0 w h))

  pub full_anew : (requested full : Size) (v u : Float) → finished_of (shrunk_of (analog_controls_of w h) requested full) v u ≡ finished_of (shrunk_of (analog_full_of w h) requested full) v u
  unfolding analog_controls_of
  full_anew requested full v u = rw (← full_bare) (finished_anew v u _ _ (shrunk_bare requested full _ _ _ _ (analog_full_of w h) full_bare))
