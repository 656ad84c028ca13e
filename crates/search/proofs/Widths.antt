-- What the two searches share: the first width at a place, the pass over the obstacles, and the choice of the wider picture. Bounds in 256ths.
use mathlib.Core.Path.{◌≡◌}
use mathlib.Core.Logic.{◌⊎◌, inl, inr}
use mathlib.Core.List.{List, [], ◌∷◌, foldl}
use mathlib.Core.Bool.{Bool, true, false, not, ◌&&◌, ◌||◌, cond}
use Prim.Native.Nat.{ℕ, ◌+◌, ◌*◌, ◌≤◌}
use native.Mathlib.Nat.{le_refl}
use native.Mathlib.Omega.{arith}
use lib.Dec.{T}
use lib.Ieee.{Float, lt, eq}
use lib.Ieee.Fits.{and_l}
use mir.Facts.{or_no}
use Rattle.prelude.proofs.Booleans.{either, by_test, or_case}
use Rattle.prelude.specs.Each.{Each}
use Rattle.prelude.proofs.EachLaws.{fold_ind, fold_each}
use Rattle.float.specs.Float.{◌⊖◌, ◌⊗◌, ◌⊘◌, k0}
use Rattle.float.specs.MinMax.{min_of, max_of}
use Rattle.geometry.specs.declared.Rect.{Rect}
use Rattle.geometry.specs.Rect.{new_of}
use Rattle.numerics.specs.Value.{AtMost, P, N, E, Le}
use Rattle.numerics.specs.Rects.{max_area}
use Rattle.numerics.proofs.Bounds.{sub_law, sub_most, most_more, lt_law, lt_not, eq_law, min_ind, max_ind, min_law, max_law, min_most, max_most, zero_most, zero_parts}
use Rattle.search.specs.Search.{better_of}
use Rattle.search.proofs.Shapes.{width, way, Shape, times_most, grows, stays, sinks}
use Rattle.search.proofs.Candidates.{Edge}

-- z is as wide as W, but for 9
abbrev pub Wide : ℕ → ℕ → Float → Type 0
Wide d W z = W + N d z ≤ P d z + E d * 9

-- ---- the first width: the room across, or what the height left allows
module _ (d : ℕ) {a : Float} {p q : ℕ} (S : Shape a p q) {h y room : Float} (hm : AtMost h max_area) (ym : Edge y) (rm : AtMost room width) where
  abbrev first : Float
  first = max_of (min_of room ((h ⊖ y) ⊗ a)) k0

  left_most : AtMost (h ⊖ y) way
  left_most = most_more (sub_most hm ym tt) way tt

  tall_most : AtMost ((h ⊖ y) ⊗ a) width
  tall_most = times_most S left_most

  pub first_most : AtMost first width
  first_most = max_most (min_most rm tall_most) (most_more zero_most width tt)

  pub first_wide : (W H Y0 : ℕ) → W * q ≡ H * p → Wide d W room → Y0 + H + N d h ≤ P d h → P d y ≤ Y0 + N d y + E d * 2 → Wide d W first
  first_wide W H Y0 shape r tall good =
      let m = (h ⊖ y) ⊗ a in
      let g : Wide d W m = grows S d W H left_most shape (omega (arith, sub_law d hm ym tt)) in
      let k : Wide d W (min_of room m) = min_ind d room m rm.whole tall_most.whole (Wide d W) (λ l. r) (λ l. g) in
      omega (arith, max_law d (min_of room m) k0 (min_most rm tall_most).whole zero_most.whole)

  pub first_low : Wide d 0 first
  first_low = let z = zero_parts d in omega (arith, max_law d (min_of room ((h ⊖ y) ⊗ a)) k0 (min_most rm tall_most).whole zero_most.whole)

  -- a width z that is not above the first is not above the room nor too high, or not above zero
  pub under_first : {C : Type 0} (z : Float) → Le d z first → (Le d z room → Le d z ((h ⊖ y) ⊗ a) → C) → (P d z ≤ N d z → C) → C
  under_first {C} z l f g =
      let m = (h ⊖ y) ⊗ a in
      let u = min_law d room m rm.whole tall_most.whole in
      let o = zero_parts d in
      max_ind d (min_of room m) k0 (min_most rm tall_most).whole zero_most.whole (λ v. (Le d z v → C))
      (λ k (b : Le d z (min_of room m)). f (omega arith) (omega arith)) (λ k (b : Le d z k0). g (omega arith)) l

  -- and its height stays above the area's end
  pub above_end : {z : Float} → AtMost z width → Le d y h → Le d z first → P d y + P d (z ⊘ a) + N d h ≤ P d h + N d y + N d (z ⊘ a) + E d * 5
  above_end {z} zm top l =
      let e = sub_law d hm ym tt in
      under_first z l (λ r t. (let k = stays S d left_most zm t in omega arith)) (λ o. (let k = sinks S d zm o in omega arith))

-- ---- the pass over the obstacles: those that are not passed over limit the width
module _ (d : ℕ) (skip : Rect → Bool) (limit : Rect → Float) where
  abbrev pub cut : Float → Rect → Float
  cut v r = cond (skip r) v (min_of v (limit r))

  abbrev Limited : Rect → Type 0
  Limited r = AtMost (limit r) width

  abbrev pub Cuts : Float → Rect → Type 0
  Cuts z r = T (skip r) ⊎ Le d z (limit r)

  pub record Cut (v z : Float) (r : Rect) : Type 0 where
    pub most : AtMost z width
    pub less : Le d z v
    pub cuts : Cuts z r

  cut_law : (v : Float) (r : Rect) → AtMost v width → Limited r → Cut v (cut v r) r
  cut_law v r f g =
      let m = min_law d v (limit r) f.whole g.whole in
      by_test (λ z. Cut v z r) (skip r) (λ t. record { most = f; less = le_refl (P d v + N d v); cuts = inl t }) (λ t. record { most = min_most f g; less = m.first; cuts = inr m.second })

  cuts_less : (v z : Float) (r : Rect) → Le d z v → Cuts v r → Cuts z r
  cuts_less v z r l (inl t) = inl t
  cuts_less v z r l (inr k) = inr (omega arith)

  module _ (os : List Rect) (v : Float) (vm : AtMost v width) (lm : Each Limited os) where
    pub narrow_most : AtMost (foldl cut v os) width
    narrow_most = fold_ind (λ z. AtMost z width) Limited cut (λ z r f g. (cut_law z r f g).most) os v vm lm

    pub narrow_less : Le d (foldl cut v os) v
    narrow_less =
        (fold_ind (λ z. AtMost z width × Le d z v) Limited cut (λ z r f g. (let k = cut_law z r f.0 g in (k.most, omega (arith, f.1, k.less)))) os v (vm, le_refl (P d v + N d v)) lm).1

    pub narrow_cuts : Each (Cuts (foldl cut v os)) os
    narrow_cuts =
        fold_each (λ z. AtMost z width) Limited cut (λ z r f g. (cut_law z r f g).most) Cuts (λ z r f g. (cut_law z r f g).cuts) (λ z x r f g k. cuts_less z (cut z r) x (cut_law z r f g).less k) os v vm lm

  -- obstacles that leave the width W leave it together
  pub narrow_wide : (W : ℕ) (os : List Rect) (v : Float) → AtMost v width → Wide d W v → Each (λ r. Limited r × (T (not (skip r)) → Wide d W (limit r))) os → Wide d W (foldl cut v os)
  narrow_wide W os v vm vw e =
      (fold_ind (λ z. AtMost z width × Wide d W z) (λ r. Limited r × (T (not (skip r)) → Wide d W (limit r))) cut (λ z r f g. ((cut_law z r f.0 g.0).most, one z r f g)) os v (vm, vw) e).1
    where
      one : (z : Float) (r : Rect) → AtMost z width × Wide d W z → Limited r × (T (not (skip r)) → Wide d W (limit r)) → Wide d W (cut z r)
      one z r f g = by_test (Wide d W) (skip r) (λ t. f.1) (λ t. min_ind d z (limit r) f.0.whole g.0.whole (Wide d W) (λ l. f.1) (λ l. g.1 t))

-- ---- the choice of the wider picture, after which R holds of it
pub record Turn (d : ℕ) (best next : Rect) (R : Rect → Type 0) : Type 0 where
  pub most : AtMost next.w width
  pub grown : Le d best.w next.w
  pub reached : R next

-- at a place that is a candidate if ok
pub turn : (d : ℕ) (best : Rect) (x y v a : Float) (ok : Bool) → AtMost best.w width → AtMost v width → Turn d best (cond ok (better_of best x y v a) best) (λ g. T ok → Le d v g.w)
unfolding better_of
turn d best x y v a ok bm vm = go ok (lt best.w v || (eq v best.w && lt y best.y)) up down
  where
    up : T (lt best.w v || (eq v best.w && lt y best.y)) → Le d best.w v
    up t =
        or_case (lt best.w v) (eq v best.w && lt y best.y) (lt_law d best.w v bm.whole vm.whole)
        (λ e. (eq_law d v best.w vm.whole bm.whole (and_l (eq v best.w) (lt y best.y) e)).1) t

    down : T (not (lt best.w v || (eq v best.w && lt y best.y))) → Le d v best.w
    down t = lt_not d best.w v bm.whole vm.whole (or_no (lt best.w v) (eq v best.w && lt y best.y) t).0

    go : (ok b : Bool) → (T b → Le d best.w v) → (T (not b) → Le d v best.w) → Turn d best (cond ok (cond b (new_of x y v (v ⊘ a)) best) best) (λ g. T ok → Le d v g.w)
    go true true u n = record { most = vm; grown = u tt; reached = λ t. le_refl (P d v + N d v) }
    go true false u n = record { most = bm; grown = le_refl (P d best.w + N d best.w); reached = λ t. n tt }
    go false b u n = record { most = bm; grown = le_refl (P d best.w + N d best.w); reached = λ t. absurd t }

-- turn by turn: what a wider picture keeps holds in the end for each place
pub fold_turn : (d : ℕ) (step : Rect → Float → Rect) (R : Float → Rect → Type 0) → ((g : Rect) (y : Float) → AtMost g.w width → Edge y → Turn d g (step g y) (R y))
    → ((y : Float) (g next : Rect) → Le d g.w next.w → R y g → R y next) → (ys : List Float) (g : Rect) → AtMost g.w width → Each Edge ys → Turn d g (foldl step g ys) (λ next. Each (λ y. R y next) ys)
fold_turn d step R turn keep [] g m e = record { most = m; grown = le_refl (P d g.w + N d g.w); reached = tt }
fold_turn d step R turn keep (y ∷ ys) g m e =
    let t = turn g y m e.0 in
    let k = fold_turn d step R turn keep ys (step g y) t.most e.1 in
    record { most = k.most; grown = omega (arith, t.grown, k.grown); reached = (keep y (step g y) (foldl step (step g y) ys) k.grown t.reached, k.reached) }

-- what holds of both pictures holds of the one chosen
pub turn_ind : (C : Rect → Type 0) (best : Rect) (x y v a : Float) (ok : Bool) → C best → (T ok → C (new_of x y v (v ⊘ a))) → C (cond ok (better_of best x y v a) best)
unfolding better_of
turn_ind C best x y v a ok c n = by_test C ok (λ t. either C (lt best.w v || (eq v best.w && lt y best.y)) (n t) c) (λ t. c)
