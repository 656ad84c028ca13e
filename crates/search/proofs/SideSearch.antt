-- The side search. No exact rectangle in the area that misses the obstacles is wider than its result by more than 9 of 1/256; and its result meets none by more than 5.
use mathlib.Core.Path.{◌≡◌}
use mathlib.Core.Logic.{inl, inr}
use mathlib.Core.List.{List, map, foldl}
use mathlib.Core.Bool.{Bool, true, false, not, ◌||◌, cond}
use Prim.Native.Nat.{ℕ, ◌+◌, ◌*◌, ◌≤◌, ◌<◌}
use native.Mathlib.Nat.{le_refl}
use native.Mathlib.Omega.{arith}
use lib.Dec.{T}
use lib.Ieee.{Float, le}
use Rattle.prelude.specs.Each.{Each}
use Rattle.prelude.proofs.EachLaws.{each_imp, each_both, each_unmap, fold_ind}
use mir.Facts.{or_no}
use Rattle.prelude.proofs.Booleans.{or_case}
use Rattle.float.specs.Float.{◌⊕◌, ◌⊖◌, ◌⊗◌, ◌⊘◌, k0, k0_01}
use Rattle.float.specs.MinMax.{max_of}
use Rattle.geometry.specs.declared.Rect.{Rect}
use Rattle.geometry.specs.Rect.{new_of, empty_rect}
use Rattle.numerics.specs.Value.{AtMost, P, N, Le}
use Rattle.numerics.specs.Rects.{max_area}
use Rattle.numerics.proofs.Bounds.{sub_law, sub_most, most_more, max_ind, max_law, max_most, zero_most, zero_parts}
use Rattle.search.specs.Search.{bottom_of, right_of, bottoms, rights, within_of, narrow_side_of, side_width_at, try_side_at, try_column, side_of}
use Rattle.search.proofs.Shapes.{width, left_end, Shape, times_most}
use Rattle.search.proofs.Candidates.{Edge, Good, Under, within_low, within_high, zero_within, find_last}
use Rattle.search.proofs.Widths.{Wide, first_most, first_wide, Cuts, narrow_wide, Turn, turn, fold_turn, turn_ind}
use Rattle.search.proofs.Clearance.{Obstacle, Misses, is_left, is_right, is_above, is_below, Apart, left, narrow, Found, none_found, pass_most, found_at, bottoms_most, rights_most, passed_below, passed_right, thin_below, thin_right, drop_most, drop_grows, drop_above}

module _ (d : ℕ) (D : 0 < d) {a : Float} {p q : ℕ} (S : Shape a p q) {w h : Float} (wm : AtMost w max_area) (hm : AtMost h max_area) where
  abbrev limit : Float → Float → Rect → Float
  limit x y r = max_of (max_of (r.x ⊖ x) ((r.y ⊖ y) ⊗ a)) k0

  abbrev skip : Float → Float → Rect → Bool
  skip x y r = le (right_of r) (x ⊕ k0_01) || le (bottom_of r) (y ⊕ k0_01)

  -- ---- one obstacle
  module _ {r : Rect} (o : Obstacle r) {x y : Float} (xm : Edge x) (ym : Edge y) where
    before_most : AtMost (r.x ⊖ x) width
    before_most = most_more (sub_most o.x xm tt) width tt

    over_width : AtMost ((r.y ⊖ y) ⊗ a) width
    over_width = times_most S (drop_most o ym)

    both_most : AtMost (max_of (r.x ⊖ x) ((r.y ⊖ y) ⊗ a)) width
    both_most = max_most before_most over_width

    limit_most : AtMost (limit x y r) width
    limit_most = max_most both_most (most_more zero_most width tt)

    limit_law : Le d (r.x ⊖ x) (limit x y r) × Le d ((r.y ⊖ y) ⊗ a) (limit x y r) × (N d (limit x y r) ≤ P d (limit x y r))
    limit_law =
        let g1 = max_law d (r.x ⊖ x) ((r.y ⊖ y) ⊗ a) before_most.whole over_width.whole in
        let g2 = max_law d (max_of (r.x ⊖ x) ((r.y ⊖ y) ⊗ a)) k0 both_most.whole zero_most.whole in
        let z = zero_parts d in
        (omega arith, omega arith, omega arith)

    limit_wide : (X0 Y0 W H : ℕ) → W * q ≡ H * p → X0 + W + N d w ≤ P d w → Y0 + H + N d h ≤ P d h → Le d k0 x → Le d k0 y → Good d X0 x → Good d Y0 y → Under d X0 w x (right_of r) → Under d Y0 h y (bottom_of r)
        → Misses d 1 X0 0 Y0 0 W H r → T (not (skip x y r)) → Wide d W (limit x y r)
    limit_wide X0 Y0 W H shape broad tall lowx lowy goodx goody ux uy (is_left l) n = omega (arith, sub_law d o.x xm tt, limit_law)
    limit_wide X0 Y0 W H shape broad tall lowx lowy goodx goody ux uy (is_right l) n = omega (arith, thin_right d D S o W X0 wm xm broad lowx ux l (or_no (le (right_of r) (x ⊕ k0_01)) (le (bottom_of r) (y ⊕ k0_01)) n).0, limit_law)
    limit_wide X0 Y0 W H shape broad tall lowx lowy goodx goody ux uy (is_above l) n = omega (arith, drop_grows d D S o ym W H Y0 (drop_most o ym) (le_refl (P d (r.y ⊖ y) + N d (r.y ⊖ y))) shape goody l, limit_law)
    limit_wide X0 Y0 W H shape broad tall lowx lowy goodx goody ux uy (is_below l) n = omega (arith, thin_below d D S o W H Y0 hm ym shape tall lowy uy l (or_no (le (right_of r) (x ⊕ k0_01)) (le (bottom_of r) (y ⊕ k0_01)) n).1, limit_law)

    -- a picture of width z, not above the limit, is apart
    by_cuts : {z : Float} → AtMost z width → Cuts d (skip x y) (limit x y) z r → Apart d 5 (new_of x y z (z ⊘ a)) r
    by_cuts {z} zm (inl t) = or_case (le (right_of r) (x ⊕ k0_01)) (le (bottom_of r) (y ⊕ k0_01)) (passed_right d o z (z ⊘ a) xm) (passed_below d o z (z ⊘ a) ym) t
    by_cuts {z} zm (inr l) =
        let e = sub_law d o.x xm tt in
        let o0 = zero_parts d in
        let C : Float → Type 0 = λ u. (Le d z u → Apart d 5 (new_of x y z (z ⊘ a)) r) in
        max_ind d (max_of (r.x ⊖ x) ((r.y ⊖ y) ⊗ a)) k0 both_most.whole zero_most.whole C
        (λ k. max_ind d (r.x ⊖ x) ((r.y ⊖ y) ⊗ a) before_most.whole over_width.whole C (λ k' (b : Le d z (r.x ⊖ x)). left (omega arith)) (λ k' b. drop_above d D S o ym zm b))
        (λ k (b : Le d z k0). narrow (omega arith))
        l

  -- ---- the search
  module _ (w0 : T (le k0 w)) (h0 : T (le k0 h)) (os : List Rect) (fair : Each Obstacle os) where
    abbrev width_of : Float → Float → Float
    width_of x y = side_width_at w h os a x y

    room_most : {x : Float} → Edge x → AtMost (w ⊖ x) width
    room_most xm = most_more (sub_most wm xm tt) width tt

    width_most : {x y : Float} → Edge x → Edge y → AtMost (width_of x y) width
    unfolding side_width_at narrow_side_of
    width_most {x} {y} xm ym = pass_most d S hm ym (room_most xm) (skip x y) (limit x y) os fair (λ r o. limit_most o xm ym)

    -- the picture g is as wide as the one at x and y, or as any at x
    abbrev Reaches : Float → Float → Rect → Type 0
    Reaches x y g = T (within_of y h) → Le d (width_of x y) g.w

    abbrev Column : Float → Rect → Type 0
    Column x g = T (within_of x w) → Each (λ y. Reaches x y g) (bottoms os)

    wider : (x y : Float) (g next : Rect) → Le d g.w next.w → Reaches x y g → Reaches x y next
    wider x y g next l k t = omega (arith, k t)

    column : (g : Rect) (x : Float) → AtMost g.w width → Edge x → Turn d g (try_column w h os a g x) (Column x)
    unfolding try_column try_side_at
    column g x m xm = go (within_of x w) (fold_turn d (try_side_at w h os a x) (Reaches x) (λ b y k ym. turn d b x y (width_of x y) a (within_of y h) k (width_most xm ym)) (wider x) (bottoms os) g m (bottoms_most os fair))
      where
        go : {next : Rect} (ok : Bool) → Turn d g next (λ b. Each (λ y. Reaches x y b) (bottoms os)) → Turn d g (cond ok next g) (λ b. T ok → Each (λ y. Reaches x y b) (bottoms os))
        go true k = record { most = k.most; grown = k.grown; reached = λ t. k.reached }
        go false k = record { most = m; grown = le_refl (P d g.w + N d g.w); reached = λ t. absurd t }

    reached : Each (λ x. Column x (side_of w h os a)) (rights os)
    unfolding side_of
    reached = (fold_turn d (try_column w h os a) Column column (λ x g next l k t. each_imp _ _ (λ y. wider x y g next l) (bottoms os) (k t)) (rights os) empty_rect (most_more zero_most width tt) (rights_most os fair)).reached

    pub side_widest : (X0 Y0 W H : ℕ) → W * q ≡ H * p → X0 + W + N d w ≤ P d w → Y0 + H + N d h ≤ P d h → Each (Misses d 1 X0 0 Y0 0 W H) os → Wide d W (side_of w h os a).w
    side_widest X0 Y0 W H shape broad tall misses =
        let z = zero_parts d in
        let e = rights_most os fair in
        let f = bottoms_most os fair in
        let l = find_last d D wm X0 (λ x. Each (λ y. T (within_of y h) → Le d (width_of x y) (side_of w h os a).w) (bottoms os)) (map right_of os) k0 e.1 reached.1 e.0
        (zero_within w w0) (omega arith) (reached.0 (zero_within w w0)) in
        let m = find_last d D hm Y0 (λ y. Le d (width_of l.last y) (side_of w h os a).w) (map bottom_of os) k0 f.1 l.holds.1 f.0 (zero_within h h0) (omega arith) (l.holds.0 (zero_within h h0)) in
        let k = wide l.last m.last l.most m.most (within_low d wm l.most l.within) (within_low d hm m.most m.within) l.good m.good l.others m.others in
        omega (arith, k, m.holds)
      where
        wide : (x y : Float) → Edge x → Edge y → Le d k0 x → Le d k0 y → Good d X0 x → Good d Y0 y → Each (Under d X0 w x) (map right_of os) → Each (Under d Y0 h y) (map bottom_of os) → Wide d W (width_of x y)
        wide x y xm ym lowx lowy goodx goody ux uy = unfold side_width_at narrow_side_of in (
            narrow_wide d (skip x y) (limit x y) W os _ (first_most d S hm ym (room_most xm))
            (first_wide d S hm ym (room_most xm) W H Y0 shape (omega (arith, sub_law d wm xm tt)) tall goody)
            (each_imp _ _ (λ r k. (limit_most k.0 xm ym, limit_wide k.0 xm ym X0 Y0 W H shape broad tall lowx lowy goodx goody k.1.1.0 k.1.1.1 k.1.0)) os
            (each_both _ _ os fair (each_both _ _ os misses (each_both _ _ os (each_unmap (Under d X0 w x) right_of os ux) (each_unmap (Under d Y0 h y) bottom_of os uy))))))

    -- ---- what it returns
    at_side : (x y : Float) → Edge x → Edge y → T (within_of x w) → T (within_of y h) → Found d w h os (new_of x y (width_of x y) (width_of x y ⊘ a))
    unfolding side_width_at narrow_side_of
    at_side x y xm ym s t =
        let e = sub_law d wm xm tt in
        let x0 = within_low d wm xm s in
        let o = zero_parts d in
        found_at d S hm ym (room_most xm) (skip x y) (limit x y) os fair (λ r o. limit_most o xm ym) t (most_more xm left_end tt) (omega (arith, within_high d wm xm s)) (λ b. (omega arith, omega arith))
        (λ r o n. omega (arith, limit_law o xm ym)) (λ r o c. by_cuts o xm ym (width_most xm ym) c)

    pub side_found : Found d w h os (side_of w h os a)
    unfolding side_of try_column try_side_at
    side_found =
        fold_ind (Found d w h os) Edge (try_column w h os a) (λ g x f xm. col g x f xm (within_of x w) (λ t. t)) (rights os) empty_rect
        (none_found d os wm hm w0 h0 fair) (rights_most os fair)
      where
        col : (g : Rect) (x : Float) → Found d w h os g → Edge x → (ok : Bool) → (T ok → T (within_of x w)) → Found d w h os (cond ok (foldl (try_side_at w h os a x) g (bottoms os)) g)
        col g x f xm false s = f
        col g x f xm true s =
            fold_ind (Found d w h os) Edge (try_side_at w h os a x) (λ b y k ym. turn_ind (Found d w h os) b x y (width_of x y) a (within_of y h) k (at_side x y xm ym (s tt))) (bottoms os) g f (bottoms_most os fair)
