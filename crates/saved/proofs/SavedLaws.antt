-- A usable rectangle's numbers are finite. The restored elements are as many as the elements.
use mathlib.Core.Path.{◌≡◌, refl, ap}
use mathlib.Core.List.{List, [], ◌∷◌}
use Prim.Native.Nat.{suc}
use lib.Dec.{T}
use lib.Ieee.{Float, nan, inf, fin, lt}
use lib.Ieee.Scale.{finite}
use lib.ListN.{length}
use Rattle.prelude.proofs.Booleans.{all_four}
use Rattle.float.specs.MinMax.{abs_of, is_finite_of}
use Rattle.geometry.specs.declared.Rect.{Rect}
use Rattle.settings.specs.Settings.{usable_of}
use Rattle.saved.specs.Saved.{restored_of}

is_finite : (x : Float) → T (is_finite_of x) → T (finite x)
unfolding is_finite_of abs_of lt
is_finite nan t = t
is_finite (inf s) t = t
is_finite (fin s m e) t = tt

pub usable_finite : (r : Rect) → T (usable_of r) → T (finite r.x) × T (finite r.y) × T (finite r.w) × T (finite r.h)
unfolding usable_of
usable_finite r t =
    let f = all_four (is_finite_of r.x) (is_finite_of r.y) (is_finite_of r.w) (is_finite_of r.h) t in
    (is_finite r.x f.0, is_finite r.y f.1, is_finite r.w f.2, is_finite r.h f.3)

pub length_restored : (w h : Float) (rs es : List Rect) → length (restored_of w h rs es) ≡ length es
unfolding restored_of
length_restored w h [] es = refl
length_restored w h (r ∷ rs) [] = refl
length_restored w h (r ∷ rs) (e ∷ es) = ap suc (length_restored w h rs es)
