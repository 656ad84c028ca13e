-- The cutout pass keeps the labels, the counts and the arrays of a mode.
use mathlib.Core.Bool.{Bool}
use mathlib.Core.List.{List}
use lib.Ieee.{Float}
use Rattle.geometry.specs.declared.Rect.{Rect}
use Rattle.layout.specs.declared.Layout.{Layout}
use Rattle.layout.specs.Labels.{OfMode}
use Rattle.layout.proofs.LabelLaws.{few}
use Rattle.cutouts.specs.Cutouts.{avoid_cutouts_of}
use Rattle.cutouts.proofs.CutoutLaws.{avoid_formed}

pub avoid_mode : (analog psp : Bool) (l : Layout) → OfMode analog psp l → (w h : Float) (cutouts : List Rect) → OfMode analog psp (avoid_cutouts_of l w h cutouts)
avoid_mode analog psp l f w h cutouts = let n = few analog psp l f in avoid_formed _ _ w h l n.0 n.1 cutouts f
