-- `all_fit` from an input on: that input's tests, and those from the next one on.
use mathlib.Core.Path.{◌≡◌}
use mathlib.Core.Bool.{◌&&◌}
use mathlib.Core.List.{List}
use Prim.Native.Nat.{ℕ, ◌+◌, ◌-◌, ◌<◌}
use native.Mathlib.Numerals.{add-one}
use native.Mathlib.Omega.{arith}
use lib.Ieee.{Float}
use lib.ListN.{length, take, drop, get_or, length-drop}
use lib.Seq.{drop-cons, take_all}
use Rattle.std.specs.List.{list_all}
use Rattle.geometry.specs.declared.Rect.{Rect}
use Rattle.fits.specs.declared.Input.{Input}
use Rattle.fits.specs.Fits.{separate_of, lies_clear_of, all_fit}

-- the later ones are a slice from the next place on
pub fits_turn : (w h : Float) (game : Rect) (holes : List Rect) (inputs : List Input) (i : ℕ) (d : Input) → i < length inputs
    → all_fit w h game holes (drop i inputs)
    ≡ (lies_clear_of w h game holes (get_or inputs i d).bounds
    && (list_all (separate_of (get_or inputs i d)) (take (length inputs - (i + 1)) (drop (i + 1) inputs)) && all_fit w h game holes (drop (i + 1) inputs)))
unfolding all_fit
fits_turn w h game holes inputs i d k =
    let slice = take_all (length inputs - (i + 1)) (drop (i + 1) inputs) (omega (arith, length-drop (i + 1) inputs)) in
    rw (slice, drop-cons inputs i d k, add-one)
