-- The toolbar keeps a layout's labels, counts and arrays.
use mathlib.Core.Bool.{Bool}
use mathlib.Core.List.{List}
use lib.Ieee.{Float}
use Rattle.geometry.specs.declared.Rect.{Rect}
use Rattle.layout.specs.declared.Layout.{Layout}
use Rattle.layout.specs.Labels.{OfMode}
use Rattle.toolbar.specs.Toolbar.{anchor_toolbar_of}

pub anchor_mode : (analog psp : Bool) (l : Layout) → OfMode analog psp l → (w h top covered : Float) (cutouts : List Rect) → OfMode analog psp (anchor_toolbar_of l w h top covered cutouts)
unfolding anchor_toolbar_of
anchor_mode analog psp l f w h top covered cutouts = f
