-- The game over elements and area as they stand on the screen: the obstacles moved into the area's frame, the picture found, and the game placed in it. Bounds in 256ths.
use mathlib.Core.Path.{◌≡◌, refl, sym, ap}
use mathlib.Core.Logic.{◌⊎◌, inl, inr}
use mathlib.Core.List.{List}
use mathlib.Core.Bool.{Bool, true, false, not, cond}
use Prim.Native.Nat.{ℕ, ◌+◌, ◌*◌, ◌≤◌, ◌<◌}
use native.Mathlib.Omega.{arith}
use lib.Dec.{T, lit≤}
use lib.Ieee.{Float, lt, eq, sub, of_bits}
use Rattle.prelude.proofs.Booleans.{either, by_test, one_fails}
use Rattle.prelude.specs.Each.{Each}
use Rattle.prelude.proofs.EachLaws.{each_filter, each_unfilter}
use Rattle.float.specs.Float.{◌⊕◌, ◌⊖◌, ◌⊗◌, ◌⊘◌, k0, k0_01, k0_25, k1, k3, k4}
use Rattle.float.specs.MinMax.{clamp_of}
use Rattle.geometry.specs.declared.Rect.{Rect}
use Rattle.geometry.specs.Rect.{new_of, overlaps_of}
use Rattle.geometry.specs.declared.Offset.{Offset}
use Rattle.numerics.specs.Value.{Whole, magnitude, pos_part, neg_part, eps, AtMost, P, N, E}
use Rattle.numerics.specs.Rects.{WholeRect, Element, Area}
use Rattle.numerics.proofs.Operations.{zero_times, times_zero}
use Rattle.numerics.proofs.Bounds.{add_law, add_most, sub_law, sub_most, mul_law, mul_most, most_size, lt_not}
use Rattle.numerics.proofs.Ranges.{range_most, clamp_whole_in}
use Rattle.numerics.proofs.Literals.{lit, f1, hundredth_most, hundredth}
use Rattle.search.specs.Search.{centered_of, side_of, clear_picture_aspect_of, obstacles_of, game_of}
use Rattle.search.proofs.Shapes.{width, Shape}
use Rattle.search.proofs.Widths.{Wide}
use Rattle.search.proofs.Clearance.{Obstacle, Misses, is_left, is_right, is_above, is_below, Apart, left, right, above, below, narrow, flat, Inside, Found}
use Rattle.search.proofs.CentredSearch.{centred_widest, centred_found}
use Rattle.search.proofs.SideSearch.{side_widest, side_found}

-- ---- the obstacles
module _ {b : Rect} (B : Area b) where
  abbrev moved : Rect → Rect
  moved e = new_of (e.x ⊖ b.x) (e.y ⊖ b.y) e.w e.h

  pub obstacles_fair : (es : List Rect) → Each Element es → Each Obstacle (obstacles_of b es)
  unfolding obstacles_of
  obstacles_fair es F =
      each_filter (λ r. overlaps_of r b) moved Element Obstacle (λ e f. record { x = sub_most f.x B.x tt; y = sub_most f.y B.y tt; w = f.w; h = f.h }) es F

  -- a rectangle that misses an element misses it in the area's frame, but for 1
  module _ (d X0 Y0 xp xn yp yn W H : ℕ) (xe : X0 + xn + P d b.x ≡ xp + N d b.x) (ye : Y0 + yn + P d b.y ≡ yp + N d b.y) where
    miss_moved : (e : Rect) → Element e → Misses d 0 xp xn yp yn W H e → Misses d 1 X0 0 Y0 0 W H (moved e)
    miss_moved e f (is_left l) = is_left (omega (arith, sub_law d f.x B.x tt))
    miss_moved e f (is_right l) = is_right (omega (arith, sub_law d f.x B.x tt))
    miss_moved e f (is_above l) = is_above (omega (arith, sub_law d f.y B.y tt))
    miss_moved e f (is_below l) = is_below (omega (arith, sub_law d f.y B.y tt))

    obstacles_miss : (es : List Rect) → Each (λ e. Element e × Misses d 0 xp xn yp yn W H e) es → Each (Misses d 1 X0 0 Y0 0 W H) (obstacles_of b es)
    unfolding obstacles_of
    obstacles_miss es F =
        each_filter (λ r. overlaps_of r b) moved (λ e. Element e × Misses d 0 xp xn yp yn W H e) (Misses d 1 X0 0 Y0 0 W H) (λ e f. miss_moved e f.0 f.1) es F

  -- ---- the picture
  module _ (d : ℕ) (D : 0 < d) {a : Float} {p q : ℕ} (S : Shape a p q) (os : List Rect) (F : Each Obstacle os) where
    abbrev centered : Rect
    centered = centered_of b.w b.h os a

    abbrev side : Rect
    side = side_of b.w b.h os a

    abbrev picture : Rect
    picture = clear_picture_aspect_of b.w b.h os a

    picture_widest : (X0 Y0 W H : ℕ) → W * q ≡ H * p → X0 + W + N d b.w ≤ P d b.w → Y0 + H + N d b.h ≤ P d b.h → Each (Misses d 1 X0 0 Y0 0 W H) os
        → (X0 + X0 + W + N d b.w ≡ P d b.w) ⊎ T (not (lt k0 centered.w)) → Wide d W picture.w
    unfolding clear_picture_aspect_of
    picture_widest X0 Y0 W H shape broad tall misses c = go (lt k0 centered.w) c
      where
        go : (t : Bool) → (X0 + X0 + W + N d b.w ≡ P d b.w) ⊎ T (not t) → Wide d W (cond t centered side).w
        go true (inl c) = centred_widest d D S B.w B.h B.w0 B.h0 os F X0 Y0 W H shape c tall misses
        go true (inr t) = absurd t
        go false c = side_widest d D S B.w B.h B.w0 B.h0 os F X0 Y0 W H shape broad tall misses

    pub centred_width_lem : AtMost centered.w width
    centred_width_lem = (centred_found d D S B.w B.h B.w0 B.h0 os F).inside.wm

    pub picture_found : Found d b.w b.h os picture
    unfolding clear_picture_aspect_of
    picture_found = either (Found d b.w b.h os) (lt k0 centered.w) (centred_found d D S B.w B.h B.w0 B.h0 os F) (side_found d D S B.w B.h B.w0 B.h0 os F)

-- ---- the game in the picture g, for a scale s and offsets ox, oy
abbrev placed : Rect → Rect → Float → Float → Float → Rect
placed b g s ox oy = new_of (b.x ⊕ g.x ⊕ g.w ⊗ (k1 ⊖ s) ⊗ ox) (b.y ⊕ g.y ⊕ g.h ⊗ (k1 ⊖ s) ⊗ oy) (g.w ⊗ s) (g.h ⊗ s)

pub game_is : {a : Float} {p q : ℕ} → Shape a p q → (es : List Rect) (b : Rect) (factor : Float) (offset : Offset)
    → game_of es b factor offset a
    ≡ placed b (clear_picture_aspect_of b.w b.h (obstacles_of b es) a) (clamp_of factor k0_25 k1) (clamp_of offset.x k0 k1) (clamp_of offset.y k0 k1)
unfolding game_of
game_is {a} S es b factor offset = by_test (λ g. put g ≡ put (clear a)) (eq a (k4 ⊘ k3)) (λ t. ap (λ z. put (clear z)) (sym (S.same t))) (λ t. refl)
  where
    clear : Float → Rect
    clear = clear_picture_aspect_of b.w b.h (obstacles_of b es)

    put : Rect → Rect
    put g = placed b g (clamp_of factor k0_25 k1) (clamp_of offset.x k0 k1) (clamp_of offset.y k0 k1)

pub offset_in : (x : Float) → Whole x → AtMost (clamp_of x k0 k1) 256
offset_in x p = range_most 256 (clamp_whole_in x p (lit 0) (lit 1)) tt

-- ---- at scale 1 the game is the picture, but for 2 across and down and 1 in size
pub record Game (d : ℕ) (b g G : Rect) : Type 0 where
  pub finite : WholeRect G
  pub x_over : P d G.x + N d b.x + N d g.x ≤ N d G.x + P d b.x + P d g.x + E d * 2
  pub x_under : N d G.x + P d b.x + P d g.x ≤ P d G.x + N d b.x + N d g.x + E d * 2
  pub y_over : P d G.y + N d b.y + N d g.y ≤ N d G.y + P d b.y + P d g.y + E d * 2
  pub y_under : N d G.y + P d b.y + P d g.y ≤ P d G.y + N d b.y + N d g.y + E d * 2
  pub w_over : P d G.w + N d g.w ≤ N d G.w + P d g.w + E d
  pub w_under : N d G.w + P d g.w ≤ P d G.w + N d g.w + E d
  pub h_over : P d G.h + N d g.h ≤ N d G.h + P d g.h + E d

one_less_one : AtMost (k1 ⊖ k1) 0
unfolding sub of_bits magnitude pos_part neg_part eps
one_less_one = record { whole = refl; size = lit≤ tt }

game_law : (d : ℕ) {b g : Rect} (ox oy : Float) → Area b → Inside d b.w b.h g → Whole ox → Whole oy → Game d b g (placed b g k1 ox oy)
game_law d {b} {g} ox oy B I p q =
    let zx = zero_times (g.w ⊗ (k1 ⊖ k1)) ox (times_zero g.w (k1 ⊖ k1) I.wm.whole one_less_one) p in
    let zy = zero_times (g.h ⊗ (k1 ⊖ k1)) oy (times_zero g.h (k1 ⊖ k1) I.hm.whole one_less_one) q in
    let sx = add_most B.x I.xm tt in
    let sy = add_most B.y I.ym tt in
    let vx = most_size d (g.w ⊗ (k1 ⊖ k1) ⊗ ox) 0 zx in
    let vy = most_size d (g.h ⊗ (k1 ⊖ k1) ⊗ oy) 0 zy in
    let ax = add_law d B.x I.xm tt in
    let ay = add_law d B.y I.ym tt in
    let cx = add_law d sx zx tt in
    let cy = add_law d sy zy tt in
    let mw = mul_law d I.wm f1 tt in
    let mh = mul_law d I.hm f1 tt in
    record {
      finite = record { x = (add_most sx zx tt).whole; y = (add_most sy zy tt).whole; w = (mul_most width I.wm f1 tt tt).whole; h = (mul_most (width + 1) I.hm f1 tt tt).whole };
      x_over = omega arith;
      x_under = omega arith;
      y_over = omega arith;
      y_under = omega arith;
      w_over = omega arith;
      w_under = omega arith;
      h_over = omega arith;
    }

-- ---- an element that the search saw, and one that it did not
module _ (d : ℕ) {b g G : Rect} (B : Area b) (I : Inside d b.w b.h g) (L : Game d b g G) where
  seen : (e : Rect) → Element e → Apart d 5 g (new_of (e.x ⊖ b.x) (e.y ⊖ b.y) e.w e.h) → Apart d 16 G e
  seen e f (left l) = left (omega (arith, sub_law d f.x B.x tt, L.x_over, L.w_over))
  seen e f (right l) = right (omega (arith, sub_law d f.x B.x tt, L.x_under))
  seen e f (above l) = above (omega (arith, sub_law d f.y B.y tt, L.y_over, L.h_over))
  seen e f (below l) = below (omega (arith, sub_law d f.y B.y tt, L.y_under))
  seen e f (narrow l) = narrow (omega (arith, L.w_over))
  seen e f (flat l) = flat (omega (arith, L.h_over))

  unseen : (e : Rect) → Element e → T (not (overlaps_of e b)) → Apart d 16 G e
  unfolding overlaps_of
  unseen e f t =
      let sx = add_most B.x B.w tt in
      let sy = add_most B.y B.h tt in
      let s = hundredth d in
      one_fails (lt e.x (b.x ⊕ b.w ⊖ k0_01)) (lt (b.x ⊕ k0_01) (e.x ⊕ e.w)) (lt e.y (b.y ⊕ b.h ⊖ k0_01)) (lt (b.y ⊕ k0_01) (e.y ⊕ e.h))
      (λ k. left (omega (arith, lt_not d e.x (b.x ⊕ b.w ⊖ k0_01) f.x.whole (sub_most sx hundredth_most tt).whole k, sub_law d sx hundredth_most tt, add_law d B.x B.w tt, s.high, s.none, I.toright, L.x_over, L.w_over)))
      (λ k. right (omega (arith, lt_not d (b.x ⊕ k0_01) (e.x ⊕ e.w) (add_most B.x hundredth_most tt).whole (add_most f.x f.w tt).whole k, add_law d B.x hundredth_most tt, add_law d f.x f.w tt, s.high, s.none, I.fromleft, L.x_under)))
      (λ k. above (omega (arith, lt_not d e.y (b.y ⊕ b.h ⊖ k0_01) f.y.whole (sub_most sy hundredth_most tt).whole k, sub_law d sy hundredth_most tt, add_law d B.y B.h tt, s.high, s.none, I.tobottom, L.y_over, L.h_over)))
      (λ k. below (omega (arith, lt_not d (b.y ⊕ k0_01) (e.y ⊕ e.h) (add_most B.y hundredth_most tt).whole (add_most f.y f.h tt).whole k, add_law d B.y hundredth_most tt, add_law d f.y f.h tt, s.high, s.none, I.fromtop, L.y_under)))
      t

-- ---- together, at size factor 1
module _ {b : Rect} (B : Area b) {a : Float} {p q : ℕ} (S : Shape a p q) (es : List Rect) (F : Each Element es) (offset : Offset) (ox : Whole offset.x) (oy : Whole offset.y) (d : ℕ) (D : 0 < d) where
  abbrev os : List Rect
  os = obstacles_of b es

  abbrev game : Rect
  game = game_of es b k1 offset a

  found : Found d b.w b.h os (clear_picture_aspect_of b.w b.h os a)
  found = picture_found B d D S os (obstacles_fair B es F)

  pub the_game : Game d b (clear_picture_aspect_of b.w b.h os a) game
  the_game =
      rw (game_is S es b k1 offset, one_clamped)
      (game_law d (clamp_of offset.x k0 k1) (clamp_of offset.y k0 k1) B found.inside (offset_in offset.x ox).whole (offset_in offset.y oy).whole)
    where
      one_clamped : clamp_of k1 k0_25 k1 ≡ k1
      one_clamped = unfold clamp_of lt of_bits in refl

  pub game_apart : Each (Apart d 16 game) es
  game_apart =
      each_unfilter (λ r. overlaps_of r b) (moved B) Element (Apart d 5 (clear_picture_aspect_of b.w b.h os a)) (Apart d 16 game) (λ e f k. seen d B found.inside the_game e f k)
      (λ e f t. unseen d B found.inside the_game e f t) es F (unfold obstacles_of in found.apart)

  pub game_wide : (X0 Y0 xp xn yp yn W H : ℕ) → X0 + xn + P d b.x ≡ xp + N d b.x → Y0 + yn + P d b.y ≡ yp + N d b.y
      → W * q ≡ H * p → X0 + W + N d b.w ≤ P d b.w → Y0 + H + N d b.h ≤ P d b.h → Each (λ e. Element e × Misses d 0 xp xn yp yn W H e) es
      → (X0 + X0 + W + N d b.w ≡ P d b.w) ⊎ T (not (lt k0 (centered_of b.w b.h os a).w))
      → W + N d game.w ≤ P d game.w + E d * 10
  game_wide X0 Y0 xp xn yp yn W H xe ye shape broad tall M c =
      let k = picture_widest B d D S os (obstacles_fair B es F) X0 Y0 W H shape broad tall (obstacles_miss B d X0 Y0 xp xn yp yn W H xe ye es M) c in
      omega (arith, k, the_game.w_under)
