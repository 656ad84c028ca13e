-- Under Maximum the game has the area below the toolbar, with no element in its way: that area, the largest picture in it and the game are in range.
use mathlib.Core.Bool.{Bool, true, false, cond, ◌&&◌, ◌||◌}
use mathlib.Core.List.{List, [], ◌∷◌, map, foldl}
use Prim.Native.Nat.{ℕ, ◌+◌, ◌≤◌}
use native.Mathlib.Omega.{arith}
use lib.Ieee.{Float, lt, eq}
use Rattle.prelude.proofs.Booleans.{either}
use Rattle.prelude.specs.Each.{Each, ◌&◌}
use Rattle.prelude.proofs.EachLaws.{fold_ind}
use Rattle.float.specs.Float.{◌⊕◌, ◌⊖◌, ◌⊗◌, ◌⊘◌, k0}
use Rattle.float.specs.MinMax.{min_of, max_of}
use Rattle.geometry.specs.declared.Rect.{Rect}
use Rattle.geometry.specs.Rect.{empty_rect}
use Rattle.geometry.specs.declared.Offset.{Offset}
use Rattle.layout.specs.declared.Layout.{Layout}
use Rattle.numerics.specs.Value.{Whole, P, N, E, Le}
use Rattle.numerics.specs.Rects.{Area, Key, shrunk_margin}
use Rattle.numerics.specs.Range.{In, at, minus}
use Rattle.numerics.proofs.Bounds.{add_law, sub_law, min_ind, max_law}
use Rattle.numerics.proofs.Ranges.{in_more, in_reach, most_in, area_side, add_in, sub_in, mul_in, div_in, min_in, max_in, range_most}
use Rattle.numerics.proofs.Literals.{lit, f2, f4/3, f480/272}
use Rattle.layout_ranges.specs.Bounded.{Shrunk, BoundedGame}
use Rattle.search.specs.Search.{bottom_of, within_of, better_of, width_at, try_at, centered_of, side_width_at, try_side_at, try_column, side_of, clear_picture_aspect_of, obstacles_of, game_of, aspect_of}
use Rattle.search.proofs.Layouts.{game_of_lem}
use Rattle.search.proofs.Shapes.{Shape, standard_shape, psp_shape}
use Rattle.arrangement_choice.specs.Choice.{below_toolbar_of, largest_of}

-- 8192 and a sixteenth
abbrev end : ℕ
end = at 8192 + 16

-- ---- the largest picture in an area without elements
record PictureIn (g : Rect) : Type 0 where
  pub x : In g.x (minus 4097) (at 4097)
  pub y : In g.y (at 0) (at 0)
  pub w : In g.w (at 0) end
  pub h : In g.h (minus 1) end

no_picture : PictureIn empty_rect
no_picture = record { x = in_more (minus 4097) (at 4097) (lit 0) tt tt; y = (lit 0); w = in_more (at 0) end (lit 0) tt tt; h = in_more (minus 1) end (lit 0) tt tt }

times_aspect : {x : Float} (psp : Bool) → In x (minus 1) (at 8193) → In (x ⊗ aspect_of psp) (minus 2) (at 16384)
times_aspect true i = in_more (minus 2) (at 16384) (mul_in i f480/272 tt) tt tt
times_aspect false i = in_more (minus 2) (at 16384) (mul_in i f4/3 tt) tt tt

over_aspect : {x : Float} (psp : Bool) → In x (at 0) end → In (x ⊘ aspect_of psp) (minus 1) end
over_aspect true i = in_more (minus 1) end (div_in i f480/272 tt) tt tt
over_aspect false i = in_more (minus 1) end (div_in i f4/3 tt) tt tt

module _ (psp : Bool) {w h : Float} (W : In w (at 0) (at 8192)) (H : In h (at 0) end) where
  better_in : {x width : Float} → In x (minus 4097) (at 4097) → In width (at 0) end → PictureIn (better_of empty_rect x k0 width (aspect_of psp))
  unfolding better_of
  better_in {width = width} x i = either PictureIn (lt k0 width || (eq width k0 && lt k0 k0)) (record { x = x; y = (lit 0); w = i; h = over_aspect psp i }) no_picture

  -- the height gives a width too
  width_in : {x : Float} → In x (minus 1) end → In (max_of (min_of x ((h ⊖ k0) ⊗ aspect_of psp)) k0) (at 0) end
  width_in i = in_more (at 0) end (max_in (min_in i (times_aspect psp (in_more (minus 1) (at 8193) (sub_in H (lit 0) tt) tt tt))) (lit 0)) tt tt

  centered_in : PictureIn (centered_of w h [] (aspect_of psp))
  unfolding centered_of try_at width_at
  centered_in =
      let wide = width_in (in_more (minus 1) end W tt tt) in
      either PictureIn (within_of k0 h) (better_in (in_more (minus 4097) (at 4097) (div_in (sub_in W wide tt) f2 tt) tt tt) wide) no_picture

  side_in : PictureIn (side_of w h [] (aspect_of psp))
  unfolding side_of try_column try_side_at side_width_at
  side_in =
      let wide = width_in (in_more (minus 1) end (sub_in W (lit 0) tt) tt tt) in
      either PictureIn (within_of k0 w) (either PictureIn (within_of k0 h) (better_in (in_more (minus 4097) (at 4097) (lit 0) tt tt) wide) no_picture) no_picture

  clear_in : PictureIn (clear_picture_aspect_of w h [] (aspect_of psp))
  unfolding clear_picture_aspect_of
  clear_in = either PictureIn (lt k0 (centered_of w h [] (aspect_of psp)).w) centered_in side_in

-- ---- an area without elements: it may begin at the picture's lower edge
pub record Lowered (b : Rect) : Type 0 where
  pub x : In b.x (minus 8192) (at 8192)
  pub y : In b.y (minus 8193) (at 16384)
  pub w : In b.w (at 0) (at 8192)
  pub h : In b.h (at 0) end

pub largest_in : (psp : Bool) {b : Rect} → Lowered b → BoundedGame (largest_of b (aspect_of psp))
unfolding largest_of
largest_in psp B =
    let g = clear_in psp B.w B.h in
    record { x = range_most _ (add_in B.x g.x tt) tt; y = range_most _ (add_in B.y g.y tt) tt; w = range_most _ g.w tt; h = range_most _ g.h tt }

pub shape : (psp : Bool) → Shape (aspect_of psp) (cond psp 480 4) (cond psp 272 3)
shape true = psp_shape
shape false = standard_shape

-- the game in it, for any size factor
pub lowered_game_in : (psp : Bool) {b : Rect} → Lowered b → (factor : Float) → Whole factor → (offset : Offset) → Whole offset.x → Whole offset.y → BoundedGame (game_of [] b factor offset (aspect_of psp))
unfolding obstacles_of
lowered_game_in psp {b} B factor fw offset ox oy =
    let g = clear_in psp B.w B.h in
    game_of_lem (shape psp) [] b factor fw offset ox oy (range_most _ (add_in B.x g.x tt) tt) (range_most _ (add_in B.y g.y tt) tt) (range_most _ g.w tt) (range_most _ g.h tt)

-- ---- the area below the toolbar
lowest_in : {y : Float} (bottoms : List Float) → In y (minus 8192) (at 8192) → Each (λ b. In b (minus 17500) (at 17500)) bottoms → In (foldl max_of y bottoms) (minus 8192) (at 17500) × Le 1 y (foldl max_of y bottoms)
lowest_in {y} bottoms Y B =
    fold_ind (λ z. In z (minus 8192) (at 17500) × Le 1 y z) (λ b. In b (minus 17500) (at 17500)) max_of (λ z b Z i. (max_in Z.0 i, omega (arith, Z.1, (max_law 1 z b Z.0.whole i.whole).first))) bottoms y
    (in_more (minus 8192) (at 17500) Y tt tt, omega arith) B

key_in : {k : Rect} → Key shrunk_margin k → In (bottom_of k) (minus 17500) (at 17500)
key_in K = in_more (minus 17500) (at 17500) (add_in K.y (most_in K.h tt) tt) tt tt

-- It begins no higher than the picture, but for a rounding, and so is as high as the picture at most, but for three.
begins : {y less lowest : Float} → In y (minus 8192) (at 8192) → In less (at 0) (at 8191 + 1) → In lowest (minus 8192) (at 17500) → Le 1 y lowest
    → P 1 y + N 1 (min_of lowest (y ⊕ less)) ≤ P 1 (min_of lowest (y ⊕ less)) + N 1 y + E 1
unfolding P N E
begins {y} {less} {lowest} i j k l =
    let a = (add_law 1 (in_reach i) (in_reach j) tt).under in
    min_ind 1 lowest (y ⊕ less) k.whole (add_in i j tt).whole (λ z. P 1 y + N 1 z ≤ P 1 z + N 1 y + E 1) (λ s. omega (arith, l)) (λ s. omega (arith, a, j.lo))

rest_in : {y h bottom : Float} → In y (minus 8192) (at 8192) → In h (at 0) (at 8192) → In bottom (minus 8193) (at 16384) → P 1 y + N 1 bottom ≤ P 1 bottom + N 1 y + E 1 → In (y ⊕ h ⊖ bottom) (minus 32768) end
unfolding P N E
rest_in i j k l =
    let lower = add_in i j tt in
    let rest = in_more (minus 32768) (at 32768) (sub_in lower k tt) tt tt in
    let a = (add_law 1 (in_reach i) (in_reach j) tt).over in
    let b = (sub_law 1 (in_reach lower) (in_reach k) tt).over in
    record { whole = rest.whole; lo = rest.lo; hi = omega (arith, a, b, l, j.hi) }

pub below_toolbar_in : {l : Layout} {picture : Rect} → Shrunk l → Area picture → Lowered (below_toolbar_of l picture)
unfolding below_toolbar_of
below_toolbar_in {l} L A =
    let y = most_in A.y tt in
    let h = area_side A.h A.h0 in
    let lowest = lowest_in (map bottom_of (l.playback ∷ l.speed ∷ l.mute ∷ l.pause ∷ [])) y (key_in L.playback & key_in L.speed & key_in L.mute & key_in L.pause & tt) in
    let less = max_in (sub_in h (lit 1) tt) (lit 0) in
    let bottom = in_more (minus 8193) (at 16384) (min_in lowest.0 (add_in y less tt)) tt tt in
    let rest = rest_in y h bottom (begins y less lowest.0 lowest.1) in
    record { x = most_in A.x tt; y = bottom; w = area_side A.w A.w0; h = in_more (at 0) end (max_in rest (lit 1)) tt tt }
