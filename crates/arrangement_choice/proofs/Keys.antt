-- Where nothing covers the toolbar, its keys, and so the area below them, do not depend on the layout.
use mathlib.Core.Path.{◌≡◌, refl}
use mathlib.Core.Bool.{Bool, true, false}
use mathlib.Core.List.{List}
use lib.Ieee.{Float, lt, of_bits}
use Rattle.float.specs.Float.{k0}
use Rattle.geometry.specs.declared.Rect.{Rect}
use Rattle.layout.specs.declared.Layout.{Layout}
use Rattle.toolbar.specs.Toolbar.{avoided_of, anchor_toolbar_of, reusable_top_of}
use Rattle.arrangement_choice.specs.Choice.{start_of, below_toolbar_of, first_of, area_of}

module _ (w h : Float) (cutouts : List Rect) (picture : Rect) where
  pub same_below : (l m : Layout) (top : Float) → below_toolbar_of (anchor_toolbar_of l w h top k0 cutouts) picture ≡ below_toolbar_of (anchor_toolbar_of m w h top k0 cutouts) picture
  unfolding below_toolbar_of anchor_toolbar_of avoided_of lt of_bits
  same_below l m top = refl

  -- the area over every layout is that over the layout at first
  pub first_area : (marked psp maximum : Bool) {area : Rect} → ((l : Layout) → area ≡ area_of (anchor_toolbar_of l w h (reusable_top_of picture) k0 cutouts) maximum picture)
      → area ≡ area_of (first_of marked psp maximum w h cutouts picture) maximum picture
  unfolding area_of first_of
  first_area marked psp true e = e (start_of marked psp w h cutouts picture)
  first_area marked psp false e = e (start_of marked psp w h cutouts picture)
