-- A turn of the toolbar's pass, by what its search finds.
use mathlib.Core.Path.{◌≡◌, refl}
use Prim.Native.Nat.{ℕ, zero, suc}
use lib.Ieee.{Float}
use mathlib.Core.Bool.{Bool}
use mathlib.Core.List.{List}
use Rattle.std.specs.Prelude.{Some, None}
use Rattle.std.specs.List.{find}
use Rattle.geometry.specs.declared.Rect.{Rect}
use Rattle.geometry.specs.Rect.{overlaps_of}
use Rattle.toolbar.specs.Toolbar.{moved_bar, pass}

module _ (left : Bool) (w h : Float) (obstacles : List Rect) (bar : Rect) where
  pub goes_on : (turns : ℕ) (c : Rect) → Some c ≡ find (overlaps_of bar) obstacles → pass left w h obstacles (suc turns) bar ≡ pass left w h obstacles turns (moved_bar left w h obstacles bar c)
  unfolding pass
  goes_on turns c e = rw (← e)

  pub is_free : (turns : ℕ) → None ≡ find (overlaps_of bar) obstacles → pass left w h obstacles turns bar ≡ bar
  unfolding pass
  is_free zero e = refl
  is_free (suc turns) e = rw (← e)
