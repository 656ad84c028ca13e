-- The game's place keeps a layout's labels, counts and arrays.
use mathlib.Core.Bool.{Bool}
use lib.Ieee.{Float}
use Rattle.geometry.specs.declared.Rect.{Rect}
use Rattle.geometry.specs.declared.Offset.{Offset}
use Rattle.layout.specs.declared.Layout.{Layout}
use Rattle.layout.specs.Labels.{OfMode}
use Rattle.search.specs.Search.{place_game_in_aspect_of}

pub place_mode : (analog psp : Bool) (l : Layout) → OfMode analog psp l → (area : Rect) (overlap : Bool) (scale : Float) (offset : Offset) (aspect : Float) → OfMode analog psp (place_game_in_aspect_of l area overlap scale offset aspect)
unfolding place_game_in_aspect_of
place_mode analog psp l f area overlap scale offset aspect = f
