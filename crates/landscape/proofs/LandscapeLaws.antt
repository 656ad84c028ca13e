-- Laws of `fit_landscape_controls`: what holds of the layout, and of it with the row, holds of what is chosen; the labels, the counts and the lengths of the arrays stay.
use mathlib.Core.Path.{◌≡◌, refl, ◌∙◌}
use mathlib.Core.Bool.{not, ◌||◌}
use mathlib.Core.List.{List}
use Prim.Native.Nat.{ℕ}
use lib.Dec.{T, eqb, ltb}
use lib.Ieee.{Float, le}
use lib.ListN.{length, length-set}
use Rattle.prelude.proofs.Booleans.{either, by_test}
use Rattle.float.specs.Float.{◌⊕◌, ◌⊗◌, k0_01, k1_35}
use Rattle.geometry.specs.declared.Rect.{Rect}
use Rattle.layout.specs.declared.Label.{Label}
use Rattle.layout.specs.declared.Layout.{Layout}
use Rattle.layout.specs.Labels.{Formed}
use Rattle.layout.proofs.LabelLaws.{mapped_formed}
use Rattle.search.specs.Search.{place_game_in_aspect_of}
use Rattle.landscape.specs.declared.KeyRow.{KeyRow}
use Rattle.landscape.specs.Landscape.{tight_of, in_row, row_sticks_of, with_key_row_of, key_row_of, with_row_and_game_of, fit_landscape_controls_of}

module _ (l : Layout) (w h : Float) (picture : Rect) (aspect : Float) where
  abbrev fitted : Layout
  fitted = with_row_and_game_of l w h picture aspect

  pub landscape_case : (C : Layout → Type 0) → C l → (T (not (tight_of (key_row_of l w h))) → C fitted) → C (fit_landscape_controls_of l w h picture aspect)
  unfolding fit_landscape_controls_of
  landscape_case C p q =
      either C (le w (h ⊗ k1_35) || eqb l.stickcount 0) p (by_test C (tight_of (key_row_of l w h)) (λ t. p) (λ t. either C (le fitted.game.w (l.game.w ⊕ k0_01)) p (q t)))

-- ---- labels, counts and arrays
row_sticks_length : (sticks : List Rect) (count : ℕ) (r : KeyRow) → length (row_sticks_of sticks count r) ≡ length sticks
unfolding row_sticks_of
row_sticks_length sticks count r = either (λ (s : List Rect). length s ≡ length sticks) (ltb 1 count) (rw (length-set, length-set)) (rw length-set)

module _ (labels : List Label) (sticks : ℕ) (l : Layout) (f : Formed labels sticks l) where
  key_row_formed : (r : KeyRow) → Formed labels sticks (with_key_row_of l r)
  unfolding with_key_row_of
  key_row_formed r = let g = mapped_formed labels sticks l (in_row r _ _) (λ c. refl) f in (g.0, (g.1.0, row_sticks_length l.sticks l.stickcount r ∙ f.1.1))

  pub landscape_formed : (w h : Float) (picture : Rect) (aspect : Float) → Formed labels sticks (fit_landscape_controls_of l w h picture aspect)
  unfolding place_game_in_aspect_of
  landscape_formed w h picture aspect = landscape_case l w h picture aspect (Formed labels sticks) f (λ t. key_row_formed (key_row_of l w h))
