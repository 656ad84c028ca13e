-- Layouts that have the same controls, d-pad and sticks are the same once the toolbar and the game are put in place; so the controls alone, finished, are `arranged` and `side_rails`.
use mathlib.Core.Path.{◌≡◌, refl, ◌∙◌}
use mathlib.Core.Bool.{Bool, true, false, cond}
use mathlib.Core.List.{List, []}
use lib.Ieee.{Float, lt}
use Rattle.prelude.specs.Lists.{map_first}
use Rattle.float.specs.Float.{◌⊖◌, k0, k16, k122}
use Rattle.geometry.specs.declared.Rect.{Rect}
use Rattle.geometry.specs.Rect.{new_of}
use Rattle.geometry.specs.declared.Offset.{Offset}
use Rattle.layout.specs.declared.Layout.{Layout}
use Rattle.layout.specs.Layout.{elements_of, with_game, with_dpad}
use Rattle.search.specs.Search.{place_game_in_aspect_of}
use Rattle.toolbar.specs.Toolbar.{anchor_toolbar_of}
use Rattle.toolbar.proofs.ToolbarRanges.{nothing_covered}
use Rattle.places.specs.declared.Places.{Places}
use Rattle.places.specs.Places.{at_of, controller_of, placed_of}
use Rattle.arranged.specs.Arranged.{finished_of, dock_places_of, docked_of, arranged_of, bottom, rail_places_of, railed_of, cluster_of, side_rails_of}
use Rattle.arranged.specs.Controls.{bare_of, rail_controls_of, side_controls_of}

module _ (w h top : Float) (cutouts : List Rect) where
  bare_anchored : (l : Layout) → anchor_toolbar_of l w h top k0 cutouts ≡ with_game (anchor_toolbar_of (bare_of l) w h top k0 cutouts) l.game
  unfolding anchor_toolbar_of
  bare_anchored l = rw (nothing_covered l cutouts, nothing_covered (bare_of l) cutouts)

  -- what is left of the first layout is its game
  pub anchored_anew : (l m : Layout) → bare_of l ≡ bare_of m → anchor_toolbar_of l w h top k0 cutouts ≡ with_game (anchor_toolbar_of m w h top k0 cutouts) l.game
  anchored_anew l m e = rw (bare_anchored l, bare_anchored m, e)

pub game_anew : (l : Layout) (old : Rect) (bounds : Rect) (overlap : Bool) (scale : Float) (offset : Offset) (aspect : Float)
    → place_game_in_aspect_of (with_game l old) bounds overlap scale offset aspect ≡ place_game_in_aspect_of l bounds overlap scale offset aspect
unfolding place_game_in_aspect_of elements_of
game_anew l old bounds overlap scale offset aspect = refl

module _ (w h : Float) where
  pub finished_anew : (l m : Layout) → bare_of l ≡ bare_of m → finished_of l w h ≡ finished_of m w h
  unfolding finished_of
  finished_anew l m e = rw (anchored_anew w h k0 [] l m e, game_anew)

  pub arranged_finished : (compact : Bool) → arranged_of w h compact ≡ finished_of (docked_of w h compact) w h
  unfolding arranged_of
  arranged_finished compact = refl

  -- what was finished before, with its controls and its d-pad moved
  moved_anew : (l : Layout) (p : Places) (dpad : Rect) → bare_of (with_dpad (placed_of (finished_of l w h) p) dpad) ≡ bare_of (with_dpad (placed_of l p) dpad)
  unfolding finished_of placed_of place_game_in_aspect_of anchor_toolbar_of
  moved_anew l p dpad = refl

  rails_bare : (cluster : Float)
      → let mainY = h ⊖ bottom ⊖ cluster in
      bare_of (with_dpad (placed_of (docked_of w h false) (rail_places_of w mainY cluster)) (new_of k16 mainY cluster cluster)) ≡ bare_of (rail_controls_of w h cluster)
  unfolding placed_of map_first at_of controller_of docked_of dock_places_of rail_controls_of rail_places_of
  rails_bare cluster = refl

  rails_finished : (cluster : Float) → railed_of w h cluster ≡ finished_of (rail_controls_of w h cluster) w h
  unfolding railed_of
  rails_finished cluster = rw (arranged_finished false) (finished_anew _ _ (moved_anew (docked_of w h false) _ _ ∙ rails_bare cluster))

  pub side_finished : (pictureHeight : Float) (cutouts : List Rect) → side_rails_of w h pictureHeight cutouts ≡ finished_of (side_controls_of w h pictureHeight cutouts) w h
  unfolding side_rails_of side_controls_of
  side_finished pictureHeight cutouts = let cluster = cluster_of w h pictureHeight cutouts in go cluster (lt cluster k122)
    where
      go : (cluster : Float) (b : Bool) → cond b (arranged_of w h false) (railed_of w h cluster) ≡ finished_of (cond b (docked_of w h false) (rail_controls_of w h cluster)) w h
      go cluster true = arranged_finished false
      go cluster false = rails_finished cluster
