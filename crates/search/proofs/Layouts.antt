-- Layouts in range: demand 3, and the range of the game.
use mathlib.Core.List.{List}
use mathlib.Core.Bool.{Bool, false}
use Prim.Native.Nat.{ℕ, ◌+◌}
use native.Mathlib.Nat.{zero-lt-suc}
use native.Mathlib.Omega.{arith}
use lib.Ieee.{Float}
use Rattle.prelude.proofs.Booleans.{either}
use Rattle.prelude.specs.Each.{Each}
use Rattle.float.specs.Float.{◌⊕◌, k1}
use Rattle.geometry.specs.declared.Rect.{Rect}
use Rattle.geometry.specs.declared.Offset.{Offset}
use Rattle.layout.specs.declared.Layout.{Layout}
use Rattle.layout.specs.Layout.{elements_of}
use Rattle.numerics.specs.Value.{Whole, AtMost}
use Rattle.numerics.specs.Rects.{max_area, Element, Area}
use Rattle.numerics.proofs.Bounds.{add_most, most_size, most_more, between_most}
use Rattle.numerics.proofs.Ranges.{range_most, sub_in, clamp_whole_in}
use Rattle.numerics.proofs.Products.{product_most}
use Rattle.numerics.proofs.Literals.{lit, i0_25}
use Rattle.search.specs.Search.{clear_picture_aspect_of, obstacles_of, game_of, place_game_in_aspect_of}
use Rattle.search.specs.Widest.{WidestGame}
use Rattle.layout_ranges.specs.Bounded.{Every, Bounded, BoundedGame}
use Rattle.search.proofs.Shapes.{Shape}
use Rattle.search.proofs.Clearance.{Inside}
use Rattle.search.proofs.Placement.{game_is, offset_in, obstacles_fair, picture_found}
use Rattle.search.proofs.Demand.{game_widest}
use Rattle.layout_ranges.proofs.Changes.{elements_in}

-- ---- the game, for any size factor
abbrev most : ℕ
most = max_area + 16

record Picture (g : Rect) : Type 0 where
  pub x : AtMost g.x most
  pub y : AtMost g.y most
  pub w : AtMost g.w most
  pub h : AtMost g.h most

picture_in : {b g : Rect} → Area b → Inside 1 b.w b.h g → Picture g
picture_in {b} {g} B I =
    let w = most_size 1 b.w max_area B.w in
    let h = most_size 1 b.h max_area B.h in
    record {
      x = between_most g.x most I.xm.whole (omega (arith, I.toright, I.wide)) (omega (arith, I.fromleft));
      y = between_most g.y most I.ym.whole (omega (arith, I.tobottom, I.high)) (omega (arith, I.fromtop));
      w = between_most g.w most I.wm.whole (omega (arith, I.toright, I.fromleft)) (omega (arith, I.wide));
      h = between_most g.h most I.hm.whole (omega (arith, I.tobottom, I.fromtop)) (omega (arith, I.high));
    }

module _ {a : Float} {p q : ℕ} (S : Shape a p q) (es : List Rect) (b : Rect) (factor : Float) (fw : Whole factor) (offset : Offset) (ox : Whole offset.x) (oy : Whole offset.y) where
  abbrev clear : Rect
  clear = clear_picture_aspect_of b.w b.h (obstacles_of b es) a

  -- by the ranges of the picture that it gets
  pub game_of_lem : AtMost (b.x ⊕ clear.x) (max_area + most + 1) → AtMost (b.y ⊕ clear.y) (max_area + most + 1) → AtMost clear.w most → AtMost clear.h most → BoundedGame (game_of es b factor offset a)
  game_of_lem x y w h =
      let s = clamp_whole_in factor fw i0_25 (lit 1) in
      let rest = range_most 193 (sub_in (lit 1) s tt) tt in
      let px = offset_in offset.x ox in
      let py = offset_in offset.y oy in
      let size = range_most 256 s tt in
      rw (game_is S es b factor offset)
      (record {
        x = most_more (add_most x (product_most 1581070 (product_most 1581069 w rest tt tt) px tt tt) tt) _ tt;
        y = most_more (add_most y (product_most 1581070 (product_most 1581069 h rest tt tt) py tt tt) tt) _ tt;
        w = most_more (product_most most w size tt tt) _ tt;
        h = most_more (product_most most h size tt tt) _ tt;
      })

  game_in : Each Element es → Area b → BoundedGame (game_of es b factor offset a)
  game_in F B =
      let g = picture_in B (picture_found B 1 (zero-lt-suc 0) S (obstacles_of b es) (obstacles_fair B es F)).inside in
      game_of_lem (add_most B.x g.x tt) (add_most B.y g.y tt) g.w g.h

-- ---- the layout with its game placed
pub place_bounded : {C D : Rect → Type 0} {l : Layout} → Every C D l → (b : Rect) (overlap : Bool) (factor : Float) (offset : Offset) (a : Float) → Every C D (place_game_in_aspect_of l b overlap factor offset a)
unfolding place_game_in_aspect_of
place_bounded L b overlap factor offset a = record { dpad = L.dpad; controls = L.controls; pause = L.pause; playback = L.playback; speed = L.speed; mute = L.mute; sticks = L.sticks }

module _ {a : Float} {p q : ℕ} (S : Shape a p q) (l : Layout) (L : Bounded l) {b : Rect} (B : Area b) (offset : Offset) (ox : Whole offset.x) (oy : Whole offset.y) where
  pub place_game_in_lem : (overlap : Bool) (factor : Float) → Whole factor → BoundedGame (place_game_in_aspect_of l b overlap factor offset a).game
  unfolding place_game_in_aspect_of
  place_game_in_lem overlap factor fw = game_in S _ b factor fw offset ox oy (either (Each Element) overlap tt (elements_in l L)) B

  -- demand 3, of a layout placed at size factor 1 without overlap
  pub place_widest : WidestGame p q b a (place_game_in_aspect_of l b false k1 offset a)
  unfolding place_game_in_aspect_of elements_of
  place_widest = game_widest B S (elements_of l) (elements_in l L) offset ox oy
