-- A picture that has become narrower than the best one cannot win, since obstacles only narrow it: a search may give it up.
use mathlib.Core.Path.{◌≡◌, refl, sym, ◌∙◌}
use mathlib.Core.Logic.{◌⊎◌, inl, inr}
use mathlib.Core.Bool.{Bool, true, false, cond, ◌||◌, ◌&&◌}
use mathlib.Core.List.{List, foldl}
use Prim.Native.Nat.{ℕ, ◌≤◌}
use lib.ListN.{length, drop, drop_of_length-le}
use lib.Dec.{T}
use lib.Ieee.{Float, lt, le, eq}
use Rattle.prelude.proofs.Booleans.{either}
use Rattle.prelude.proofs.EachLaws.{fold_keeps}
use Rattle.float.specs.Float.{◌⊕◌, ◌⊘◌, k0_01}
use Rattle.float.proofs.Order.{lt_trans, lt_irrefl, lt_not_eq, min_below}
use Rattle.geometry.specs.declared.Rect.{Rect}
use Rattle.geometry.specs.Rect.{new_of}
use Rattle.search.specs.Search.{bottom_of, right_of, narrow_of, narrow_side_of, better_of}

-- f leaves a width that is below b below b
abbrev pub Narrows : (Float → Rect → Float) → Float → Type 0
Narrows f b = (width : Float) (r : Rect) → T (lt width b) → T (lt (f width r) b)

pub narrow_below : (center aspect y b : Float) → Narrows (narrow_of center aspect y) b
unfolding narrow_of
narrow_below center aspect y b width r p = either (λ v. T (lt v b)) (le (bottom_of r) (y ⊕ k0_01)) p (min_below width _ b p)

pub narrow_side_below : (aspect x y b : Float) → Narrows (narrow_side_of aspect x y) b
unfolding narrow_side_of
narrow_side_below aspect x y b width r p = either (λ v. T (lt v b)) (le (right_of r) (x ⊕ k0_01) || le (bottom_of r) (y ⊕ k0_01)) p (min_below width _ b p)

better_not : (best : Rect) (x y width aspect : Float) → T (lt width best.w) → better_of best x y width aspect ≡ best
unfolding better_of
better_not best x y width aspect p = go (lt best.w width) refl (eq width best.w) refl
  where
    go : (l : Bool) → lt best.w width ≡ l → (e : Bool) → eq width best.w ≡ e → cond (l || (e && lt y best.y)) (new_of x y width (width ⊘ aspect)) best ≡ best
    go true h e k = absurd (lt_irrefl width (lt_trans width best.w width p (rw h tt)))
    go false h true k = absurd (lt_not_eq width best.w p (rw k tt))
    go false h false k = refl

-- A turn's answer is that of the full width, if no obstacle is left or the picture was given up. `left` is where a picture of a width starts.
pub turn_is_full : (f : Float → Rect → Float) (obstacles : List Rect) (width : Float) {full : Float} {i : ℕ} (best : Rect) → Narrows f best.w → (left : Float → Float) (y aspect : Float) → foldl f width (drop i obstacles) ≡ full
    → (length obstacles ≤ i) ⊎ (lt width best.w ≡ true) → better_of best (left width) y width aspect ≡ better_of best (left full) y full aspect
turn_is_full f obstacles width {full} {i} best keeps left y aspect e (inl h) = rw (← e, drop_of_length-le obstacles {i = i} h)
turn_is_full f obstacles width {full} {i} best keeps left y aspect e (inr t) =
    let q : T (lt width best.w) = rw t tt in
    better_not best (left width) y width aspect q ∙ sym (better_not best (left full) y full aspect (rw (← e) (fold_keeps (λ v. T (lt v best.w)) f keeps (drop i obstacles) width q)))
