-- Demand 3 of the game over any list of elements in range, for both shapes and both searches, at size factor 1 and any finite offset.
use mathlib.Core.Path.{◌≡◌, refl, sym, ap, ◌∙◌}
use mathlib.Core.Logic.{◌⊎◌, inl, inr}
use mathlib.Core.List.{List}
use mathlib.Core.Bool.{Bool, not, ◌||◌}
use Prim.Native.Nat.{ℕ, ◌+◌, ◌-◌, ◌*◌, ◌≤◌, ◌<◌}
use native.Mathlib.Nat.{zero-lt-suc, le_refl, sub-add_cancel}
use native.Mathlib.Omega.{arith}
use lib.Dec.{T, not_T}
use lib.IntN.{ℤ, pos, negsuc, neg_ℤ, ◌+ℤ◌, ◌-ℤ◌, ◌*ℤ◌}
use lib.Signed.{le_z, lt_z}
use lib.Ieee.{Float, lt}
use Rattle.prelude.proofs.Booleans.{by_test, all_four, one_fails, or_l, or_r}
use Rattle.prelude.specs.Each.{Each}
use Rattle.prelude.proofs.EachLaws.{each_imp, each_both}
use Rattle.float.specs.Float.{k0, k1}
use Rattle.geometry.specs.declared.Rect.{Rect}
use Rattle.geometry.specs.declared.Offset.{Offset}
use Rattle.numerics.specs.Value.{Whole, pos_part, neg_part, value, above, below, eps, P, N, E}
use Rattle.numerics.specs.Rects.{WholeRect, Element, Area}
use Rattle.numerics.proofs.Integers.{le_parts, parts_le, nle_parts, nlt_parts, add_parts, neg_parts, mul_parts, eq_parts, value_parts, scaled_parts}
use Rattle.numerics.proofs.Operations.{lt_true}
use Rattle.numerics.proofs.Bounds.{zero_most}
use Rattle.search.specs.Search.{game_of, obstacles_of}
use Rattle.search.specs.Widest.{Exact, over, right_edge, lower_edge, meets, middle, lesser, greater, meet_across, meet_down, sixteenth, centred_width, Rival, Widest}
use Rattle.search.proofs.Shapes.{Shape}
use Rattle.search.proofs.Clearance as O
use Rattle.search.proofs.Clearance.{Misses, is_left, is_right, is_above, is_below, Apart, narrow, flat}
use Rattle.search.proofs.Placement.{obstacles_fair, centred_width_lem, the_game, game_apart, game_wide}

-- ---- the numbers of a rectangle over d
abbrev Scaled : ℕ → Float → Type 0
Scaled d x = (above (value x *ℤ pos d) ≡ P d x) × (below (value x *ℤ pos d) ≡ N d x)

scaled_rect_lem : (d : ℕ) (r : Rect) → WholeRect r → Scaled d r.x × Scaled d r.y × Scaled d r.w × Scaled d r.h
scaled_rect_lem d r n = (scaled_parts d r.x n.x, scaled_parts d r.y n.y, scaled_parts d r.w n.w, scaled_parts d r.h n.h)

element_whole : {e : Rect} → Element e → WholeRect e
element_whole f = record { x = f.x.whole; y = f.y.whole; w = f.w.whole; h = f.h.whole }

-- ---- a rectangle that does not meet an element misses it
above_zero : (a : ℤ) → T (lt_z (pos 0) a) → below a ≡ 0
above_zero (pos a) t = refl
above_zero (negsuc a) t = absurd t

missed : (d : ℕ) (r : Exact) (e : Rect) → Element e → below r.w ≡ 0 → below r.h ≡ 0 → T (not (meets r (over d e))) → Misses d 0 (above r.x) (below r.x) (above r.y) (below r.y) (above r.w) (above r.h) e
missed d r e f w0 h0 t =
    let o = over d e in
    let s = scaled_rect_lem d e (element_whole f) in
    one_fails (lt_z r.x (right_edge o)) (lt_z o.x (right_edge r)) (lt_z r.y (lower_edge o)) (lt_z o.y (lower_edge r))
    (λ k. is_right (omega (arith, nlt_parts r.x (right_edge o) k, add_parts o.x o.w, s)))
    (λ k. is_left (omega (arith, nlt_parts o.x (right_edge r) k, add_parts r.x r.w, s, w0)))
    (λ k. is_below (omega (arith, nlt_parts r.y (lower_edge o) k, add_parts o.y o.h, s)))
    (λ k. is_above (omega (arith, nlt_parts o.y (lower_edge r) k, add_parts r.y r.h, s, h0)))
    t

-- ---- how far two rectangles meet, on one axis: from c to a, and from d to b
module _ (a b : ℤ) where
  lesser_first : above (lesser a b) + below a ≤ above a + below (lesser a b)
  lesser_first = by_test (λ z. above z + below a ≤ above a + below z) (le_z a b) (λ t. le_refl (above a + below a)) (nle_parts a b)

  lesser_second : above (lesser a b) + below b ≤ above b + below (lesser a b)
  lesser_second = by_test (λ z. above z + below b ≤ above b + below z) (le_z a b) (le_parts a b) (λ t. le_refl (above b + below b))

  greater_first : above a + below (greater a b) ≤ above (greater a b) + below a
  greater_first = by_test (λ z. above a + below z ≤ above z + below a) (le_z a b) (le_parts a b) (λ t. le_refl (above a + below a))

  greater_second : above b + below (greater a b) ≤ above (greater a b) + below b
  greater_second = by_test (λ z. above b + below z ≤ above z + below b) (le_z a b) (λ t. le_refl (above b + below b)) (nle_parts a b)

module _ (a b c d : ℤ) (s : ℕ) where
  meet_by : above (lesser a b) + below (greater c d) ≤ above (greater c d) + below (lesser a b) + s → T (le_z (lesser a b -ℤ greater c d) (pos s))
  meet_by h =
      let k = add_parts (lesser a b) (neg_ℤ (greater c d)) in
      let n = neg_parts (greater c d) in
      parts_le (lesser a b -ℤ greater c d) (pos s) (omega (arith, k, n, h))

  meet_before : above a + below d ≤ above d + below a + s → T (le_z (lesser a b -ℤ greater c d) (pos s))
  meet_before h = meet_by (omega (arith, lesser_first a b, greater_second c d))

  meet_after : above b + below c ≤ above c + below b + s → T (le_z (lesser a b -ℤ greater c d) (pos s))
  meet_after h = meet_by (omega (arith, lesser_second a b, greater_first c d))

  meet_thin : above a + below c ≤ above c + below a + s → T (le_z (lesser a b -ℤ greater c d) (pos s))
  meet_thin h = meet_by (omega (arith, lesser_first a b, greater_first c d))

sixteen : E 1 * 16 ≡ sixteenth
unfolding E eps sixteenth
sixteen = refl

module _ {e g : Rect} (f : Element e) (n : WholeRect g) where
  abbrev og : Exact
  og = over 1 g

  abbrev oe : Exact
  oe = over 1 e

  abbrev across : Bool
  across = le_z (meet_across og oe) (pos sixteenth)

  abbrev down : Bool
  down = le_z (meet_down og oe) (pos sixteenth)

  here : Scaled 1 g.x × Scaled 1 g.y × Scaled 1 g.w × Scaled 1 g.h
  here = scaled_rect_lem 1 g n

  there : Scaled 1 e.x × Scaled 1 e.y × Scaled 1 e.w × Scaled 1 e.h
  there = scaled_rect_lem 1 e (element_whole f)

  apart_meets : Apart 1 16 g e → T (across || down)
  apart_meets (O.left l) = or_l across down (meet_before (right_edge og) (right_edge oe) og.x oe.x sixteenth (omega (arith, add_parts og.x og.w, here, there, sixteen)))
  apart_meets (O.right l) = or_l across down (meet_after (right_edge og) (right_edge oe) og.x oe.x sixteenth (omega (arith, add_parts oe.x oe.w, here, there, sixteen)))
  apart_meets (O.narrow l) = or_l across down (meet_thin (right_edge og) (right_edge oe) og.x oe.x sixteenth (omega (arith, add_parts og.x og.w, here, sixteen)))
  apart_meets (O.above l) = or_r across down (meet_before (lower_edge og) (lower_edge oe) og.y oe.y sixteenth (omega (arith, add_parts og.y og.h, here, there, sixteen)))
  apart_meets (O.below l) = or_r across down (meet_after (lower_edge og) (lower_edge oe) og.y oe.y sixteenth (omega (arith, add_parts oe.y oe.h, here, there, sixteen)))
  apart_meets (O.flat l) = or_r across down (meet_thin (lower_edge og) (lower_edge oe) og.y oe.y sixteenth (omega (arith, add_parts og.y og.h, here, sixteen)))

-- ---- the width's bound, back in whole numbers
bound_go : (W za na zv nv s ε d : ℕ) → za + nv + 0 ≡ na + zv + s → ε * 16 ≡ s → W + nv * d ≤ zv * d + ε * d * 10 → W + na * d ≤ za * d + 0
bound_go W za na zv nv s ε d e t h = let k = ap (λ (x : ℕ). x * d) e in let l = ap (λ (x : ℕ). x * d) t in omega arith

bound : (d : ℕ) (x : Float) (w : ℤ) → Whole x → below w ≡ 0 → above w + N d x ≤ P d x + E d * 10 → T (le_z w ((value x +ℤ pos sixteenth) *ℤ pos d))
unfolding P N E
bound d x w p z h =
    let a = value x +ℤ pos sixteenth in
    let m = mul_parts a d in
    let v = value_parts x p in
    let e : above a + neg_part x + 0 ≡ below a + pos_part x + sixteenth = omega (arith, add_parts (value x) (pos sixteenth), v) in
    parts_le w (a *ℤ pos d) (omega (arith, m, bound_go (above w) (above a) (below a) (pos_part x) (neg_part x) sixteenth eps d e (omega (arith, sixteen)) h, z))

-- ---- a centred search that ends at width zero goes on to the sides
no_width : (x : Float) → Whole x → value x ≡ pos 0 → T (not (lt k0 x))
no_width x p e = not_T (lt k0 x) (λ t. never (lt_true k0 x zero_most.whole p t))
  where
    never : pos_part k0 + neg_part x < pos_part x + neg_part k0 → ⊥
    never h =
        let v = value_parts x p in
        let k = eq_parts (value x) (pos 0) e in
        let z = zero_most.size in
        omega arith

-- ---- demand 3
module _ {b : Rect} (B : Area b) {a : Float} {p q : ℕ} (S : Shape a p q) (es : List Rect) (F : Each Element es) (offset : Offset) (ox : Whole offset.x) (oy : Whole offset.y) where
  abbrev game : Rect
  game = game_of es b k1 offset a

  abbrev found : Float
  found = centred_width es b a

  module _ (d : ℕ) (D : 0 < d) (r : Exact) (R : Rival p q es b found d r) where
    abbrev o : Exact
    o = over d b

    area : Scaled d b.x × Scaled d b.y × Scaled d b.w × Scaled d b.h
    area = scaled_rect_lem d b (record { x = B.x.whole; y = B.y.whole; w = B.w.whole; h = B.h.whole })

    w0 : below r.w ≡ 0
    w0 = above_zero r.w R.wide

    h0 : below r.h ≡ 0
    h0 = above_zero r.h R.high

    sides : T (le_z o.x r.x) × T (le_z (right_edge r) (right_edge o)) × T (le_z o.y r.y) × T (le_z (lower_edge r) (lower_edge o))
    sides = all_four (le_z o.x r.x) (le_z (right_edge r) (right_edge o)) (le_z o.y r.y) (le_z (lower_edge r) (lower_edge o)) R.within

    -- X0 and Y0 are the rival's corner in the area's frame
    module _ (X0 Y0 : ℕ) (ex : X0 + (below r.x + P d b.x) ≡ above r.x + N d b.x) (ey : Y0 + (below r.y + P d b.y) ≡ above r.y + N d b.y) where
      placing : (middle r ≡ middle o) ⊎ (value found ≡ pos 0) → (X0 + X0 + above r.w + N d b.w ≡ P d b.w) ⊎ T (not (lt k0 found))
      placing (inl e) =
          inl (omega (arith, eq_parts (middle r) (middle o) e, add_parts r.x r.x, add_parts (r.x +ℤ r.x) r.w, add_parts o.x o.x, add_parts (o.x +ℤ o.x) o.w, area, w0))
      placing (inr e) = inr (no_width found (centred_width_lem B 1 (zero-lt-suc 0) S (obstacles_of b es) (obstacles_fair B es F)).whole e)

      rival_at : T (le_z r.w ((value game.w +ℤ pos sixteenth) *ℤ pos d))
      rival_at =
          bound d game.w r.w (the_game B S es F offset ox oy d D).finite.w w0
          (game_wide B S es F offset ox oy d D X0 Y0 (above r.x) (below r.x) (above r.y) (below r.y) (above r.w) (above r.h)
          (omega arith) (omega arith) (sym (mul_parts r.w q).0 ∙ ap above R.shape ∙ (mul_parts r.h p).0)
          (omega (arith, le_parts (right_edge r) (right_edge o) sides.1, add_parts r.x r.w, add_parts o.x o.w, area, w0))
          (omega (arith, le_parts (lower_edge r) (lower_edge o) sides.3, add_parts r.y r.h, add_parts o.y o.h, area, h0))
          (each_imp _ _ (λ e k. (k.0, missed d r e k.0 w0 h0 k.1)) es (each_both _ _ es F R.clear))
          (placing R.position))

    rival : T (le_z r.w ((value game.w +ℤ pos sixteenth) *ℤ pos d))
    rival =
        rival_at (above r.x + N d b.x - (below r.x + P d b.x)) (above r.y + N d b.y - (below r.y + P d b.y))
        (sub-add_cancel (omega (arith, le_parts o.x r.x sides.0, area))) (sub-add_cancel (omega (arith, le_parts o.y r.y sides.2, area)))

  pub game_widest : Widest p q es b found game
  game_widest =
      let G = the_game B S es F offset ox oy 1 (zero-lt-suc 0) in
      record {
        finite = G.finite;
        finite_elements = each_imp _ _ (λ e f. element_whole f) es F;
        widest = rival;
        apart = each_imp _ _ (λ e k. apart_meets k.0 G.finite k.1) es (each_both _ _ es F (game_apart B S es F offset ox oy 1 (zero-lt-suc 0)));
      }
