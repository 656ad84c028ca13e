-- The labels, counts and arrays of `controls`: those of the layout whose controls are moved.
use mathlib.Core.Path.{refl}
use mathlib.Core.Bool.{Bool, true, false}
use mathlib.Core.List.{List}
use Prim.Native.Nat.{ℕ}
use lib.Dec.{T}
use lib.Ieee.{Float}
use Rattle.prelude.specs.Each.{◌&◌}
use Rattle.geometry.specs.declared.Rect.{Rect}
use Rattle.layout.specs.declared.Label.{Label}
use Rattle.layout.specs.declared.Layout.{Layout}
use Rattle.layout.specs.Labels.{Formed, OfMode}
use Rattle.layout.proofs.Found.{Given}
use Rattle.places.specs.declared.Places.{Places}
use Rattle.places.proofs.PlaceLabels.{placed_formed}
use Rattle.arranged.proofs.ArrangedLabels.{arranged_formed}
use Rattle.defaults.proofs.DefaultLabels.{analog_formed, psp_formed}
use Rattle.picture.specs.Picture.{arrange_of, stacked_of, vertical_of, rowed_of, horizontal_of, base_of, controls_of}
use Rattle.picture.proofs.PictureCases.{vertical_case, horizontal_case, first_case}

module _ (labels : List Label) (sticks : ℕ) (base : Layout) (f : Formed labels sticks base) where
  arrange_formed : (dpad : Rect) (places : Places) (first second : Rect) → Formed labels sticks (arrange_of base dpad places first second)
  unfolding arrange_of
  arrange_formed dpad places first second = let g = placed_formed labels sticks base places f in (g.0, (g.1.0, refl))

  vertical_formed : (left right : Rect) (analog : Bool) → Given (Formed labels sticks) (vertical_of base left right analog)
  unfolding stacked_of
  vertical_formed left right analog = vertical_case (Formed labels sticks) base left right analog (λ s t. arrange_formed _ _ _ _)

  horizontal_formed : (w : Float) (band : Rect) (analog psp : Bool) → Given (Formed labels sticks) (horizontal_of base w band analog psp)
  unfolding rowed_of
  horizontal_formed w band analog psp = horizontal_case (Formed labels sticks) base w band analog psp (λ t. arrange_formed _ _ _ _)

module _ (w h : Float) where
  -- a psp has a stick
  base_formed : (analog psp : Bool) → (T psp → T analog) → OfMode analog psp (base_of w h analog psp)
  unfolding base_of
  base_formed true true k = psp_formed w h
  base_formed true false k = analog_formed w h
  base_formed false true k = absurd (k tt)
  base_formed false false k = arranged_formed w h false

  pub controls_formed : (game : Rect) (analog psp : Bool) (holes : List Rect) → (T psp → T analog) → Given (OfMode analog psp) (controls_of w h game analog psp holes)
  unfolding controls_of
  controls_formed game analog psp holes k =
      let base = base_of w h analog psp in
      let f = base_formed analog psp k in
      first_case (OfMode analog psp) _ _ (horizontal_formed _ _ base f w _ analog psp & vertical_formed _ _ base f _ _ analog & vertical_formed _ _ base f _ _ analog & tt)
