-- The centred search. No exact rectangle that is centred and misses the obstacles is wider than its result by more than 9 of 1/256; and its result meets none by more than 5.
use mathlib.Core.Path.{◌≡◌}
use mathlib.Core.Logic.{inl, inr}
use mathlib.Core.List.{List, map}
use mathlib.Core.Bool.{Bool, not}
use Prim.Native.Nat.{ℕ, ◌+◌, ◌-◌, ◌*◌, ◌/◌, ◌≤◌, ◌<◌}
use native.Mathlib.Omega.{arith}
use lib.Dec.{T}
use lib.Ieee.{Float, le}
use Rattle.prelude.specs.Each.{Each}
use Rattle.prelude.proofs.EachLaws.{each_imp, each_both, each_unmap, fold_ind}
use Rattle.float.specs.Float.{◌⊕◌, ◌⊖◌, ◌⊗◌, ◌⊘◌, k0, k0_01, k2}
use Rattle.float.specs.MinMax.{max_of}
use Rattle.geometry.specs.declared.Rect.{Rect}
use Rattle.geometry.specs.Rect.{new_of, empty_rect}
use Rattle.numerics.specs.Value.{AtMost, P, N, E, Le}
use Rattle.numerics.specs.Rects.{max_side, max_area}
use Rattle.numerics.proofs.Bounds.{Muls, sub_law, sub_most, mul_law, mul_most, div_law, div_most, most_more, le_law, max_ind, max_law, max_most, zero_most, zero_parts}
use Rattle.numerics.proofs.Literals.{f2}
use Rattle.search.specs.Search.{bottom_of, bottoms, within_of, narrow_of, width_at, try_at, centered_of}
use Rattle.search.proofs.Shapes.{corner, way, width, left_end, Shape, times_most, stays}
use Rattle.search.proofs.Candidates.{Edge, Good, Under, within_low, zero_within, find_last}
use Rattle.search.proofs.Widths.{Wide, first_most, first_wide, Cuts, narrow_wide, turn, fold_turn, turn_ind}
use Rattle.search.proofs.Clearance.{Obstacle, Misses, is_left, is_right, is_above, is_below, Apart, left, right, narrow, flat, Found, none_found, pass_most, found_at, bottoms_most, passed_below, thin_below, drop_most, drop_grows, drop_above}

-- the middle of the area, and the way from it to an obstacle
abbrev mid : ℕ
mid = max_area / 2 + 1

abbrev aside : ℕ
aside = mid + corner + 1 + max_side + 1

module _ (d : ℕ) (D : 0 < d) {a : Float} {p q : ℕ} (S : Shape a p q) {w h : Float} (wm : AtMost w max_area) (hm : AtMost h max_area) where
  abbrev c : Float
  c = w ⊘ k2

  c_most : AtMost c mid
  c_most = div_most (max_area / 2) wm f2 tt tt

  c_law : Muls d c w 1 2
  c_law = div_law d wm f2 tt

  -- ---- one obstacle: the room beside it, and above it
  abbrev to_left : Rect → Float
  to_left r = c ⊖ r.x ⊖ r.w

  abbrev to_right : Rect → Float
  to_right r = r.x ⊖ c

  abbrev gap : Rect → Float
  gap r = max_of (max_of (to_left r) (to_right r)) k0

  abbrev beside : Rect → Float
  beside r = gap r ⊗ k2

  abbrev over : Float → Rect → Float
  over y r = max_of (r.y ⊖ y) k0 ⊗ a

  abbrev limit : Float → Rect → Float
  limit y r = max_of (beside r) (over y r)

  abbrev skip : Float → Rect → Bool
  skip y r = le (bottom_of r) (y ⊕ k0_01)

  module _ {r : Rect} (o : Obstacle r) where
    left_most : AtMost (to_left r) aside
    left_most = sub_most (sub_most c_most o.x tt) o.w tt

    right_most : AtMost (to_right r) aside
    right_most = most_more (sub_most o.x c_most tt) aside tt

    gap_most : AtMost (gap r) aside
    gap_most = max_most (max_most left_most right_most) (most_more zero_most aside tt)

    beside_law : Muls d (beside r) (gap r) 2 1
    beside_law = mul_law d gap_most f2 tt

    beside_most : AtMost (beside r) width
    beside_most = most_more (mul_most (aside + aside) gap_most f2 tt tt) width tt

    gap_law : (P d (to_left r) + N d (gap r) ≤ P d (gap r) + N d (to_left r)) × (P d (to_right r) + N d (gap r) ≤ P d (gap r) + N d (to_right r)) × (N d (gap r) ≤ P d (gap r))
    gap_law =
        let g1 = max_law d (to_left r) (to_right r) left_most.whole right_most.whole in
        let g2 = max_law d (max_of (to_left r) (to_right r)) k0 (max_most left_most right_most).whole zero_most.whole in
        let z = zero_parts d in
        (omega arith, omega arith, omega arith)

    module _ {y : Float} (ym : Edge y) where
      drop0_most : AtMost (max_of (r.y ⊖ y) k0) way
      drop0_most = max_most (drop_most o ym) (most_more zero_most way tt)

      over_width : AtMost (over y r) width
      over_width = times_most S drop0_most

      limit_most : AtMost (limit y r) width
      limit_most = max_most beside_most over_width

      limit_wide : (X0 Y0 W H : ℕ) → W * q ≡ H * p → X0 + X0 + W + N d w ≡ P d w → Y0 + H + N d h ≤ P d h → Le d k0 y → Good d Y0 y → Under d Y0 h y (bottom_of r) → Misses d 1 X0 0 Y0 0 W H r
          → T (not (skip y r)) → Wide d W (limit y r)
      limit_wide X0 Y0 W H shape centred tall low good u m n = go m
        where
          g : Le d (beside r) (limit y r) × Le d (over y r) (limit y r)
          g = let k = max_law d (beside r) (over y r) beside_most.whole over_width.whole in (k.first, k.second)

          go : Misses d 1 X0 0 Y0 0 W H r → Wide d W (limit y r)
          go (is_left l) = omega (arith, c_law, beside_law, gap_law, sub_law d o.x c_most tt, g)
          go (is_right l) = omega (arith, c_law, beside_law, gap_law, sub_law d c_most o.x tt, sub_law d (sub_most c_most o.x tt) o.w tt, g)
          go (is_above l) = omega (arith, drop_grows d D S o ym W H Y0 drop0_most (max_law d (r.y ⊖ y) k0 (drop_most o ym).whole zero_most.whole).first shape good l, g)
          go (is_below l) = omega (arith, thin_below d D S o W H Y0 hm ym shape tall low u l n, beside_law, gap_law, g)

      -- ---- a picture of width z, not above the limit, is apart
      module _ {z : Float} (zm : AtMost z width) where
        abbrev box : Rect
        box = new_of ((w ⊖ z) ⊘ k2) y z (z ⊘ a)

        x_law : Muls d box.x (w ⊖ z) 1 2
        x_law = div_law d (sub_most wm zm tt) f2 tt

        by_beside : Le d z (beside r) → Apart d 5 box r
        by_beside l =
            let C : Float → Type 0 = λ u. (P d (beside r) + N d u * 2 ≤ P d u * 2 + N d (beside r) + E d → Apart d 5 box r) in
            let e = sub_law d wm zm tt in
            let o0 = zero_parts d in
            max_ind d (max_of (to_left r) (to_right r)) k0 (max_most left_most right_most).whole zero_most.whole C
            (λ k. max_ind d (to_left r) (to_right r) left_most.whole right_most.whole C
            (λ k' (b : P d (beside r) + N d (to_left r) * 2 ≤ P d (to_left r) * 2 + N d (beside r) + E d).
            right (omega (arith, sub_law d c_most o.x tt, sub_law d (sub_most c_most o.x tt) o.w tt, c_law, x_law)))
            (λ k' (b : P d (beside r) + N d (to_right r) * 2 ≤ P d (to_right r) * 2 + N d (beside r) + E d). left (omega (arith, sub_law d o.x c_most tt, c_law, x_law))))
            (λ k (b : P d (beside r) + N d k0 * 2 ≤ P d k0 * 2 + N d (beside r) + E d). narrow (omega arith))
            (omega (arith, beside_law))

        by_over : Le d z (over y r) → Apart d 5 box r
        by_over l =
            let t = r.y ⊖ y in
            let o0 = zero_parts d in
            max_ind d t k0 (drop_most o ym).whole zero_most.whole (λ u. (AtMost u way → Le d z (u ⊗ a) → Apart d 5 box r))
            (λ k um (b : Le d z (t ⊗ a)). drop_above d D S o ym zm b)
            (λ k um (b : Le d z (k0 ⊗ a)). flat (omega (arith, stays S d um zm b)))
            drop0_most l

        by_cuts : Cuts d (skip y) (limit y) z r → Apart d 5 box r
        by_cuts (inl t) = passed_below d o z (z ⊘ a) ym t
        by_cuts (inr l) = max_ind d (beside r) (over y r) beside_most.whole over_width.whole (λ u. (Le d z u → Apart d 5 box r)) (λ k b. by_beside b) (λ k b. by_over b) l

  -- ---- the search
  module _ (w0 : T (le k0 w)) (h0 : T (le k0 h)) (os : List Rect) (fair : Each Obstacle os) where
    abbrev width_of : Float → Float
    width_of y = width_at w h os a y

    wide_room : AtMost w width
    wide_room = most_more wm width tt

    width_most : {y : Float} → Edge y → AtMost (width_of y) width
    unfolding width_at narrow_of
    width_most {y} ym = pass_most d S hm ym wide_room (skip y) (limit y) os fair (λ r o. limit_most o ym)

    -- the picture g is as wide as the one at y
    abbrev Reaches : Float → Rect → Type 0
    Reaches y g = T (within_of y h) → Le d (width_of y) g.w

    reached : Each (λ y. Reaches y (centered_of w h os a)) (bottoms os)
    unfolding centered_of try_at
    reached = (fold_turn d (try_at w h os a) Reaches (λ g y m ym. turn d g ((w ⊖ width_of y) ⊘ k2) y (width_of y) a (within_of y h) m (width_most ym)) (λ y g next l k t. omega (arith, k t)) (bottoms os) empty_rect (most_more zero_most width tt) (bottoms_most os fair)).reached

    pub centred_widest : (X0 Y0 W H : ℕ) → W * q ≡ H * p → X0 + X0 + W + N d w ≡ P d w → Y0 + H + N d h ≤ P d h → Each (Misses d 1 X0 0 Y0 0 W H) os → Wide d W (centered_of w h os a).w
    centred_widest X0 Y0 W H shape centred tall misses =
        let z = zero_parts d in
        let e = bottoms_most os fair in
        let l = find_last d D hm Y0 (λ y. Le d (width_of y) (centered_of w h os a).w) (map bottom_of os) k0 e.1 reached.1 e.0 (zero_within h h0) (omega arith) (reached.0 (zero_within h h0)) in
        let y = l.last in
        let low = within_low d hm l.most l.within in
        let k : Wide d W (width_of y) = wide y l.most low l.good l.others in
        omega (arith, k, l.holds)
      where
        wide : (y : Float) → Edge y → Le d k0 y → Good d Y0 y → Each (Under d Y0 h y) (map bottom_of os) → Wide d W (width_of y)
        wide y ym low good u = unfold width_at narrow_of in (narrow_wide d (skip y) (limit y) W os _ (first_most d S hm ym wide_room)
            (first_wide d S hm ym wide_room W H Y0 shape (omega arith) tall good)
            (each_imp _ _ (λ r k. (limit_most k.0 ym, limit_wide k.0 ym X0 Y0 W H shape centred tall low good k.1.1 k.1.0)) os
            (each_both _ _ os fair (each_both _ _ os misses (each_unmap (Under d Y0 h y) bottom_of os u)))))

    -- ---- what it returns
    at_centre : (y : Float) → Edge y → T (within_of y h) → Found d w h os (new_of ((w ⊖ width_of y) ⊘ k2) y (width_of y) (width_of y ⊘ a))
    unfolding width_at narrow_of
    at_centre y ym t =
        let zm = width_most ym in
        let e = sub_law d wm zm tt in
        let x = div_law d (sub_most wm zm tt) f2 tt in
        let o = zero_parts d in
        found_at d S hm ym wide_room (skip y) (limit y) os fair (λ r o. limit_most o ym) t (div_most (left_end - 1) (sub_most wm zm tt) f2 tt tt) (omega (arith, le_law d k0 w zero_most.whole wm.whole w0)) (λ b. (omega arith, omega arith))
        (λ r o n. omega (arith, beside_law o, gap_law o, max_law d (beside r) (over y r) (beside_most o).whole (over_width o ym).whole)) (λ r o c. by_cuts o ym zm c)

    pub centred_found : Found d w h os (centered_of w h os a)
    unfolding centered_of try_at
    centred_found =
        fold_ind (Found d w h os) Edge (try_at w h os a) (λ g y f ym. turn_ind (Found d w h os) g _ y (width_of y) a (within_of y h) f (at_centre y ym)) (bottoms os) empty_rect
        (none_found d os wm hm w0 h0 fair) (bottoms_most os fair)
