-- One obstacle against an exact rectangle, and against a picture that the search found; the parts that both searches share. Bounds in 256ths.
use mathlib.Core.Path.{◌≡◌}
use mathlib.Core.List.{List, ◌∷◌, map, foldl}
use mathlib.Core.Bool.{Bool, not}
use Prim.Native.Nat.{ℕ, ◌+◌, ◌*◌, ◌≤◌, ◌<◌}
use native.Mathlib.Omega.{arith}
use lib.Dec.{T}
use lib.Ieee.{Float, le}
use Rattle.prelude.specs.Each.{Each}
use Rattle.prelude.proofs.EachLaws.{each_map, each_imp, each_both}
use Rattle.float.specs.Float.{◌⊕◌, ◌⊖◌, ◌⊗◌, ◌⊘◌, k0, k0_01}
use Rattle.float.specs.MinMax.{min_of, max_of}
use Rattle.geometry.specs.declared.Rect.{Rect}
use Rattle.geometry.specs.Rect.{new_of, empty_rect}
use Rattle.numerics.specs.Value.{AtMost, P, N, E, Le}
use Rattle.numerics.specs.Rects.{max_side, max_area}
use Rattle.numerics.proofs.Bounds.{add_law, add_most, sub_law, sub_most, le_law, zero_most, zero_parts, most_more}
use Rattle.numerics.proofs.Literals.{hundredth_most, hundredth}
use Rattle.search.specs.Search.{bottom_of, right_of, bottoms, rights, within_of}
use Rattle.search.proofs.Shapes.{corner, edge, way, width, left_end, Shape, over_most, falls, grows, stays, thin}
use Rattle.search.proofs.Candidates.{Edge, Good, Under, within_low, within_high, escape}
use Rattle.search.proofs.Widths.{Wide, first_most, first_low, under_first, above_end, cut, Cuts, narrow_most, narrow_less, narrow_cuts, narrow_wide}

-- an element in the area's frame
pub record Obstacle (r : Rect) : Type 0 where
  pub x : AtMost r.x corner
  pub y : AtMost r.y corner
  pub w : AtMost r.w max_side
  pub h : AtMost r.h max_side

-- the exact rectangle W by H at xp - xn, yp - yn misses r, but for k
pub data Misses (d k xp xn yp yn W H : ℕ) (r : Rect) : Type 0 where
  is_left : xp + W + N d r.x ≤ P d r.x + xn + E d * k → Misses d k xp xn yp yn W H r
  is_right : P d r.x + P d r.w + xn ≤ xp + N d r.x + N d r.w + E d * k → Misses d k xp xn yp yn W H r
  is_above : yp + H + N d r.y ≤ P d r.y + yn + E d * k → Misses d k xp xn yp yn W H r
  is_below : P d r.y + P d r.h + yn ≤ yp + N d r.y + N d r.h + E d * k → Misses d k xp xn yp yn W H r

-- the picture g lies beside r, above or below it, or is narrow or flat, but for k
pub data Apart (d k : ℕ) (g r : Rect) : Type 0 where
  left : P d g.x + P d g.w + N d r.x ≤ P d r.x + N d g.x + N d g.w + E d * k → Apart d k g r
  right : P d r.x + P d r.w + N d g.x ≤ P d g.x + N d r.x + N d r.w + E d * k → Apart d k g r
  above : P d g.y + P d g.h + N d r.y ≤ P d r.y + N d g.y + N d g.h + E d * k → Apart d k g r
  below : P d r.y + P d r.h + N d g.y ≤ P d g.y + N d r.y + N d r.h + E d * k → Apart d k g r
  narrow : P d g.w ≤ N d g.w + E d * k → Apart d k g r
  flat : P d g.h ≤ N d g.h + E d * k → Apart d k g r

-- the picture g lies in the area of w by h, but for 5
pub record Inside (d : ℕ) (w h : Float) (g : Rect) : Type 0 where
  pub xm : AtMost g.x left_end
  pub ym : Edge g.y
  pub wm : AtMost g.w width
  pub hm : AtMost g.h (width + 1)
  pub wide : N d g.w ≤ P d g.w + E d * 9
  pub high : N d g.h ≤ P d g.h + E d * 10
  pub fromleft : N d g.x ≤ P d g.x + E d * 2
  pub toright : P d g.x + P d g.w + N d w ≤ P d w + N d g.x + N d g.w + E d * 5
  pub fromtop : N d g.y ≤ P d g.y
  pub tobottom : P d g.y + P d g.h + N d h ≤ P d h + N d g.y + N d g.h + E d * 5

pub record Found (d : ℕ) (w h : Float) (os : List Rect) (g : Rect) : Type 0 where
  pub inside : Inside d w h g
  pub apart : Each (Apart d 5 g) os

-- nothing found
pub none_found : (d : ℕ) {w h : Float} (os : List Rect) → AtMost w max_area → AtMost h max_area → T (le k0 w) → T (le k0 h) → Each Obstacle os → Found d w h os empty_rect
none_found d {w} {h} os wm hm w0 h0 e =
    let o = zero_parts d in
    let x = le_law d k0 w zero_most.whole wm.whole w0 in
    let y = le_law d k0 h zero_most.whole hm.whole h0 in
    record {
      inside = record {
        xm = most_more zero_most left_end tt;
        ym = most_more zero_most edge tt;
        wm = most_more zero_most width tt;
        hm = most_more zero_most (width + 1) tt;
        wide = omega arith;
        high = omega arith;
        fromleft = omega arith;
        toright = omega arith;
        fromtop = omega arith;
        tobottom = omega arith;
      };
      apart = each_imp Obstacle (Apart d 5 empty_rect) (λ r f. narrow (omega arith)) os e;
    }

-- ---- a place y of a search: the width z that the pass over the obstacles leaves of the room across and the height
module _ (d : ℕ) {a : Float} {p q : ℕ} (S : Shape a p q) {h y room : Float} (hm : AtMost h max_area) (ym : Edge y) (rm : AtMost room width)
    (skip : Rect → Bool) (limit : Rect → Float) (os : List Rect) (fair : Each Obstacle os) (lm : (r : Rect) → Obstacle r → AtMost (limit r) width) where
  abbrev z : Float
  z = foldl (cut d skip limit) (max_of (min_of room ((h ⊖ y) ⊗ a)) k0) os

  limits : Each (λ r. AtMost (limit r) width) os
  limits = each_imp Obstacle (λ r. AtMost (limit r) width) lm os fair

  pub pass_most : AtMost z width
  pass_most = narrow_most d skip limit os _ (first_most d S hm ym rm) limits

  pass_less : Le d z (max_of (min_of room ((h ⊖ y) ⊗ a)) k0)
  pass_less = narrow_less d skip limit os _ (first_most d S hm ym rm) limits

  -- a picture at x, where the room is not below zero by more than 1: it lies in the area across if z is not above the room by more than that, and is apart from what limits it
  pub found_at : {w x : Float} → T (within_of y h) → AtMost x left_end → N d room ≤ P d room + E d
      → (P d z + N d room ≤ P d room + N d z + E d → (N d x ≤ P d x + E d * 2) × (P d x + P d z + N d w ≤ P d w + N d x + N d z + E d * 5))
      → ((r : Rect) → Obstacle r → T (not (skip r)) → Wide d 0 (limit r)) → ((r : Rect) → Obstacle r → Cuts d skip limit z r → Apart d 5 (new_of x y z (z ⊘ a)) r)
      → Found d w h os (new_of x y z (z ⊘ a))
  found_at t xm some across low apart =
      let f = first_most d S hm ym rm in
      let wide : Wide d 0 z = narrow_wide d skip limit 0 os _ f (first_low d S hm ym rm) (each_imp Obstacle (λ r. AtMost (limit r) width × (T (not (skip r)) → Wide d 0 (limit r))) (λ r o. (lm r o, low r o)) os fair) in
      let y0 = within_low d hm ym t in
      let o = zero_parts d in
      let x = across (under_first d S hm ym rm z pass_less (λ b c. omega arith) (λ b. omega arith)) in
      record {
        inside = record {
          xm = xm;
          ym = ym;
          wm = pass_most;
          hm = over_most S pass_most;
          wide = omega arith;
          high = falls S d pass_most (omega arith);
          fromleft = x.0;
          toright = x.1;
          fromtop = omega arith;
          tobottom = above_end d S hm ym rm pass_most (within_high d hm ym t) pass_less;
        };
        apart = each_imp _ _ (λ r c. apart r c.0 c.1) os (each_both _ _ os fair (narrow_cuts d skip limit os _ f limits));
      }

-- ---- the far edges
edges_most : (f : Rect → Float) → ((r : Rect) → Obstacle r → Edge (f r)) → (os : List Rect) → Each Obstacle os → Each Edge (k0 ∷ map f os)
edges_most f most os e = (most_more zero_most edge tt, each_map Edge f os (each_imp Obstacle (λ r. Edge (f r)) most os e))

pub bottoms_most : (os : List Rect) → Each Obstacle os → Each Edge (bottoms os)
bottoms_most os e = edges_most bottom_of (λ r o. add_most o.y o.h tt) os e

pub rights_most : (os : List Rect) → Each Obstacle os → Each Edge (rights os)
rights_most os e = edges_most right_of (λ r o. add_most o.x o.w tt) os e

-- on one axis: an obstacle from u on, s long, and a place y
module _ (d : ℕ) {u s : Float} (um : AtMost u corner) (sm : AtMost s max_side) where
  passed : {y : Float} → Edge y → T (le (u ⊕ s) (y ⊕ k0_01)) → P d u + P d s + N d y ≤ P d y + N d u + N d s + E d * 5
  passed {y} ym t =
      omega (arith, le_law d (u ⊕ s) (y ⊕ k0_01) (add_most um sm tt).whole (add_most ym hundredth_most tt).whole t, add_law d um sm tt, add_law d ym hundredth_most tt, hundredth d)

  -- an exact rectangle from Y0 on, H long, that lies past it
  short : {h y : Float} → 0 < d → (H Y0 : ℕ) → AtMost h max_area → Edge y → Y0 + H + N d h ≤ P d h → Le d k0 y → Under d Y0 h y (u ⊕ s)
      → P d u + P d s + 0 ≤ Y0 + N d u + N d s + E d * 1 → T (not (le (u ⊕ s) (y ⊕ k0_01))) → H ≤ E d * 2
  short D H Y0 hm ym tall low v l n =
      let g : Good d Y0 (u ⊕ s) = omega (arith, add_law d um sm tt) in
      omega (arith, escape d D hm Y0 ym (add_most um sm tt) low g v n)

-- ---- an obstacle that is passed over
module _ (d : ℕ) {r : Rect} (o : Obstacle r) where
  pub passed_below : {x y : Float} (w h : Float) → Edge y → T (le (bottom_of r) (y ⊕ k0_01)) → Apart d 5 (new_of x y w h) r
  passed_below w h ym t = below (passed d o.y o.h ym t)

  pub passed_right : {x y : Float} (w h : Float) → Edge x → T (le (right_of r) (x ⊕ k0_01)) → Apart d 5 (new_of x y w h) r
  passed_right w h xm t = right (passed d o.x o.w xm t)

-- the height above one
pub drop_most : {r : Rect} → Obstacle r → {y : Float} → Edge y → AtMost (r.y ⊖ y) way
drop_most o ym = sub_most o.y ym tt

module _ (d : ℕ) (D : 0 < d) {a : Float} {p q : ℕ} (S : Shape a p q) {r : Rect} (o : Obstacle r) where
  -- one that the exact rectangle is below, or right of, is passed over, unless the rectangle is thin
  pub thin_below : {h y : Float} (W H Y0 : ℕ) → AtMost h max_area → Edge y → W * q ≡ H * p → Y0 + H + N d h ≤ P d h → Le d k0 y → Under d Y0 h y (bottom_of r)
      → P d r.y + P d r.h + 0 ≤ Y0 + N d r.y + N d r.h + E d * 1 → T (not (le (bottom_of r) (y ⊕ k0_01))) → W ≤ E d * 4
  thin_below W H Y0 hm ym shape tall low u l n = thin S W H (E d) shape (short d o.y o.h D H Y0 hm ym tall low u l n)

  pub thin_right : {w x : Float} (W X0 : ℕ) → AtMost w max_area → Edge x → X0 + W + N d w ≤ P d w → Le d k0 x → Under d X0 w x (right_of r)
      → P d r.x + P d r.w + 0 ≤ X0 + N d r.x + N d r.w + E d * 1 → T (not (le (right_of r) (x ⊕ k0_01))) → W ≤ E d * 4
  thin_right W X0 wm xm broad low u l n = omega (arith, short d o.x o.w D W X0 wm xm broad low u l n)

  -- ---- the height above an obstacle
  module _ {y : Float} (ym : Edge y) where
    pub drop_grows : (W H Y0 : ℕ) {t : Float} → AtMost t way → Le d (r.y ⊖ y) t → W * q ≡ H * p → Good d Y0 y → Y0 + H + N d r.y ≤ P d r.y + 0 + E d * 1 → W + N d (t ⊗ a) ≤ P d (t ⊗ a) + E d * 9
    drop_grows W H Y0 tm l shape good h = grows S d W H tm shape (omega (arith, sub_law d o.y ym tt))

    pub drop_above : {x z : Float} → AtMost z width → Le d z ((r.y ⊖ y) ⊗ a) → Apart d 5 (new_of x y z (z ⊘ a)) r
    drop_above zm l = above (omega (arith, stays S d (drop_most o ym) zm l, sub_law d o.y ym tt))
