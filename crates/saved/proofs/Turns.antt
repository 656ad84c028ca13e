-- A turn of the loop over elements: the next one gets what was saved for it, if anything was.
use mathlib.Core.Path.{◌≡◌, refl, ap}
use mathlib.Core.List.{List, [], ◌∷◌, ◌++◌}
use Prim.Native.Nat.{ℕ, zero, suc, ◌<◌}
use native.Mathlib.Omega.{arith}
use Rattle.std.specs.Prelude.{Option, Some, None, Float, length, take, drop, get_or, set}
use Rattle.std.specs.List.{slice_get}
use Rattle.geometry.specs.declared.Rect.{Rect}
use Rattle.saved.specs.Saved.{restore_of, restored_of}

module _ (w h : Float) where
  pub at_first : (rs es : List Rect) → es ≡ restored_of w h rs [] ++ es
  unfolding restored_of
  at_first [] es = refl
  at_first (r ∷ rs) es = refl

  abbrev pub restore_next : Option Rect → Rect → Rect
  restore_next (Some r) e = restore_of w h r e
  restore_next None e = e

  pub turn : (i : ℕ) (rs es : List Rect) (d : Rect) → i < length es
      → (let out = restored_of w h rs (take i es) ++ drop i es in set out i (restore_next (slice_get rs i) (get_or out i d))) ≡ restored_of w h rs (take (suc i) es) ++ drop (suc i) es
  unfolding restored_of
  turn i rs [] d q = absurd (let z : ⊥ = omega arith in z)
  turn zero [] (e ∷ es) d q = refl
  turn zero (r ∷ []) (e ∷ es) d q = refl
  turn zero (r ∷ s ∷ rs) (e ∷ es) d q = refl
  turn (suc i) [] (e ∷ es) d q = ap (λ (t : List Rect). e ∷ t) (turn i [] es d (omega arith))
  turn (suc i) (r ∷ rs) (e ∷ es) d q = ap (λ (t : List Rect). restore_of w h r e ∷ t) (turn i rs es d (omega arith))
