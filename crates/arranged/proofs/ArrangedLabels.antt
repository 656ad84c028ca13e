-- The labels, counts and arrays of `arranged` and `side_rails`.
use mathlib.Core.Path.{refl}
use mathlib.Core.Bool.{Bool, false}
use mathlib.Core.List.{List}
use Prim.Native.Nat.{ℕ}
use lib.Ieee.{Float, lt}
use Rattle.prelude.proofs.Booleans.{either}
use Rattle.float.specs.Float.{k122}
use Rattle.geometry.specs.declared.Rect.{Rect}
use Rattle.layout.specs.declared.Label.{Label}
use Rattle.layout.specs.declared.Layout.{Layout}
use Rattle.layout.specs.Labels.{standard_labels, Formed}
use Rattle.search.specs.Search.{place_game_in_aspect_of}
use Rattle.toolbar.specs.Toolbar.{anchor_toolbar_of}
use Rattle.places.specs.Places.{controller_of}
use Rattle.places.proofs.PlaceLabels.{placed_formed}
use Rattle.arranged.specs.Arranged.{finished_of, docked_of, arranged_of, railed_of, cluster_of, side_rails_of}

module _ (labels : List Label) (sticks : ℕ) (l : Layout) where
  pub finished_formed : (w h : Float) → Formed labels sticks l → Formed labels sticks (finished_of l w h)
  unfolding finished_of place_game_in_aspect_of anchor_toolbar_of
  finished_formed w h f = f

module _ (w h : Float) where
  pub arranged_formed : (compact : Bool) → Formed standard_labels 0 (arranged_of w h compact)
  unfolding arranged_of docked_of controller_of
  arranged_formed compact = finished_formed standard_labels 0 _ w h ((refl, refl, refl), (refl, refl))

  railed_formed : (cluster : Float) → Formed standard_labels 0 (railed_of w h cluster)
  unfolding railed_of
  railed_formed cluster = finished_formed standard_labels 0 _ w h (placed_formed standard_labels 0 (arranged_of w h false) _ (arranged_formed false))

  pub side_rails_formed : (pictureHeight : Float) (cutouts : List Rect) → Formed standard_labels 0 (side_rails_of w h pictureHeight cutouts)
  unfolding side_rails_of
  side_rails_formed pictureHeight cutouts =
      let cluster = cluster_of w h pictureHeight cutouts in
      either (Formed standard_labels 0) (lt cluster k122) {x = arranged_of w h false} {y = railed_of w h cluster} (arranged_formed false) (railed_formed cluster)
