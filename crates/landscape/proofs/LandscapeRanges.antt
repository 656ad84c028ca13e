-- `fit_landscape_controls` keeps a layout in range, on screens up to 8192 by 8192, and its game the widest.
use mathlib.Core.Bool.{false, not, ◌||◌}
use mathlib.Core.List.{List, [], ◌∷◌}
use Prim.Native.Nat.{ℕ, ◌+◌, ◌≤◌, ◌<◌}
use lib.Dec.{T, ltb}
use lib.Ieee.{Float, lt}
use lib.ListN.{length, get_or, set}
use mir.Facts.{or_no}
use Rattle.prelude.proofs.Booleans.{either}
use Rattle.prelude.specs.Lists.{map_first, filter_map, reduce}
use Rattle.prelude.specs.Each.{Each}
use Rattle.prelude.proofs.EachLaws.{each_take, each_at, each_set, fold_ind, each_filter, each_map_first}
use Rattle.float.specs.Float.{k1, k104, k122}
use Rattle.geometry.specs.declared.Rect.{Rect}
use Rattle.geometry.specs.Rect.{empty_rect, shifted_of}
use Rattle.geometry.specs.Offset.{centred}
use Rattle.layout.specs.declared.Control.{Control}
use Rattle.layout.specs.declared.Label.{Label}
use Rattle.layout.specs.declared.Label.TheVariants.{Tri, O, X, Sq, L1, L2, R2, R1, Select, Start, L3, R3}
use Rattle.layout.specs.declared.Layout.{Layout}
use Rattle.layout.specs.Actions.{join_of, action_bounds_of}
use Rattle.layout.proofs.ActionLaws.{action_bounds_lem}
use Rattle.layout.specs.Label.{is_face_of}
use Rattle.layout.specs.Layout.{any_rect, control_list}
use Rattle.numerics.specs.Value.{AtMost}
use Rattle.numerics.specs.Rects.{Area, Element, OnScreen, max_area, max_corner, max_side, shrunk_margin}
use Rattle.numerics.specs.Range.{In, at, minus}
use Rattle.numerics.proofs.Bounds.{most_more}
use Rattle.numerics.proofs.Ranges.{in_more, most_in, add_in, sub_in, sub_back, div_in, times_in, min_in, not_below, range_most, element_in, placed_element}
use Rattle.numerics.proofs.Literals.{lit, i0_5, f2}
use Rattle.layout_ranges.specs.Bounded.{Every, Bounded, BoundedGame}
use Rattle.search.specs.Widest.{WidestGame}
use Rattle.layout_ranges.proofs.Changes.{every_imp, dpad_in, controls_in, sticks_in}
use Rattle.search.proofs.Layouts.{place_bounded, place_game_in_lem, place_widest}
use Rattle.search.proofs.Shapes.{Shape}
use Rattle.toolbar.specs.Toolbar.{toolbar_height}
use Rattle.landscape.specs.declared.KeyRow.{KeyRow}
use Rattle.landscape.specs.Landscape.{measure_key_row_of, tight_of, place_in_row_of, in_row, row_sticks_of, with_key_row_of, key_row_of, fit_landscape_controls_of}
use Rattle.landscape.proofs.LandscapeLaws.{landscape_case}

-- an element of the layout
abbrev Old : Rect → Type 0
Old e = OnScreen shrunk_margin e

-- ---- the row, where it is not tight
record RowIn (r : KeyRow) : Type 0 where
  pub w : In r.w (at 1) (at 8192)
  pub face : In r.face (at 122) (at 8200)
  pub stick : In r.stick (at 104) (at 8200)
  pub shoulder : In r.shoulder (at 0) (at 4200)
  pub row_y : In r.row_y (minus 64) (at 8192)
  pub stick_y : In r.stick_y (minus 8400) (at 8192)
  pub face_y : In r.face_y (at 0) (at 8192)
  pub shoulder_y : In r.shoulder_y (at 0) (at 8192)

-- the shoulders lie below the toolbar, so the wells below them are on the screen too
row_in : {w h face stick : Float} → In w (at 1) (at 8192) → In h (at 1) (at 8192) → AtMost face (max_area + shrunk_margin) → AtMost stick (max_area + shrunk_margin)
    → T (not (tight_of (measure_key_row_of w h face stick))) → RowIn (measure_key_row_of w h face stick)
unfolding measure_key_row_of tight_of
row_in {w} {h} {face} {stick} W H F S t =
    let r = measure_key_row_of w h face stick in
    let tight = lt r.shoulder_y toolbar_height in
    let small = lt face k122 || lt stick k104 in
    let n = (or_no tight small t).1 in
    let f = in_more (at 122) (at 8200) (not_below (most_in F tt) (lit 122) (or_no (lt face k122) (lt stick k104) n).0) tt tt in
    let s = in_more (at 104) (at 8200) (not_below (most_in S tt) (lit 104) (or_no (lt face k122) (lt stick k104) n).1) tt tt in
    let rowY = sub_in (sub_in H (lit 4) tt) (lit 48) tt in
    let stickY = sub_in (sub_in rowY (lit 8) tt) s tt in
    let faceY = sub_in (sub_in stickY (lit 8) tt) f tt in
    let above = sub_in faceY (lit 8) tt in
    let high = sub_in above (lit 48) tt in
    let shoulderY = not_below high (lit 18) (or_no tight small t).0 in
    record {
      w = W;
      face = f;
      stick = s;
      shoulder = in_more (at 0) (at 4200) (div_in (sub_in f (lit 8) tt) f2 tt) tt tt;
      row_y = in_more (minus 64) (at 8192) rowY tt tt;
      stick_y = in_more (minus 8400) (at 8192) stickY tt tt;
      face_y = in_more (at 0) (at 8192) (sub_back (at 1) faceY (lit 8) (sub_back (at 10) above (lit 48) shoulderY tt tt) tt tt) tt tt;
      shoulder_y = in_more (at 0) (at 8192) shoulderY tt tt;
    }

-- ---- the box around the faces
record Corner (r : Rect) : Type 0 where
  pub x : In r.x (minus shrunk_margin) (at (8192 + shrunk_margin))
  pub y : In r.y (minus shrunk_margin) (at (8192 + shrunk_margin))

join_corner : (a b : Rect) → Corner a → Corner b → Corner (join_of a b)
unfolding join_of
join_corner a b A B = record { x = min_in A.x B.x; y = min_in A.y B.y }

boxes_corner : (rs : List Rect) → Each Corner rs → Corner (reduce join_of empty_rect rs)
boxes_corner [] e = let zero = in_more (minus shrunk_margin) (at (8192 + shrunk_margin)) (lit 0) tt tt in record { x = zero; y = zero }
boxes_corner (r ∷ rs) e = fold_ind Corner Corner join_of join_corner rs r e.0 e.1

actions_in : (l : Layout) → l.count ≤ length l.controls → Each (λ c. Old c.bounds) l.controls → Corner (action_bounds_of l)
actions_in l cs e =
    rw (action_bounds_lem l cs)
    (boxes_corner (filter_map (λ c. is_face_of c.label) (λ c. c.bounds) (control_list l))
    (each_filter (λ c. is_face_of c.label) (λ c. c.bounds) (λ c. Old c.bounds) Corner (λ c P. record { x = P.x; y = P.y }) (control_list l)
    (each_take (λ c. Old c.bounds) l.count l.controls e)))

-- ---- the places
module _ {r : KeyRow} {dx dy : Float} (R : RowIn r) (DX : In dx (minus 17500) (at 9100)) (DY : In dy (minus 9300) (at 9300)) where
  face_in : {bounds : Rect} → Old bounds → Element (shifted_of bounds dx dy)
  face_in B = record { x = range_most max_corner (add_in B.x DX tt) tt; y = range_most max_corner (add_in B.y DY tt) tt; w = most_more B.w max_side tt; h = most_more B.h max_side tt }

  place_in : {bounds : Rect} → Old bounds → (label : Label) → Element (place_in_row_of r dx dy bounds label)
  unfolding place_in_row_of
  place_in B Tri = face_in B
  place_in B O = face_in B
  place_in B X = face_in B
  place_in B Sq = face_in B
  place_in B L1 = element_in (lit 16) R.shoulder_y R.shoulder (lit 48) tt
  place_in B L2 = element_in (add_in (lit 24) R.shoulder tt) R.shoulder_y R.shoulder (lit 48) tt
  place_in B R2 = element_in (sub_in (sub_in R.w (lit 24) tt) (times_in f2 R.shoulder tt) tt) R.shoulder_y R.shoulder (lit 48) tt
  place_in B R1 = element_in (sub_in (sub_in R.w (lit 16) tt) R.shoulder tt) R.shoulder_y R.shoulder (lit 48) tt
  place_in B Select = element_in (lit 72) R.row_y (lit 48) (lit 48) tt
  place_in B Start = element_in (sub_in R.w (lit 120) tt) R.row_y (lit 48) (lit 48) tt
  place_in B L3 = element_in (lit 16) R.row_y (lit 48) (lit 48) tt
  place_in B R3 = element_in (sub_in R.w (lit 64) tt) R.row_y (lit 48) (lit 48) tt

  -- the controls past the first n are on the screen as they were
  row_controls_in : (n : ℕ) (cs : List Control) → Each (λ c. Old c.bounds) cs → Each (λ c. Element c.bounds) (map_first (in_row r dx dy) n cs)
  row_controls_in n cs e = each_map_first (λ c. Old c.bounds) (λ c. Element c.bounds) (in_row r dx dy) (λ c B. place_in B c.label) (λ c P. placed_element P tt) n cs e

row_sticks_in : {r : KeyRow} → RowIn r → (sticks : List Rect) (count : ℕ) → Each Element sticks → Each Element (row_sticks_of sticks count r)
unfolding row_sticks_of
row_sticks_in R sticks count e =
    let left = each_set Element 0 sticks _ e (element_in (lit 16) R.stick_y R.stick R.stick tt) in
    either (Each Element) (ltb 1 count) (each_set Element 1 (set sticks 0 _) _ left (element_in (sub_in (sub_in R.w (lit 16) tt) R.stick tt) R.stick_y R.stick R.stick tt)) left

-- ---- the layout
module _ (l : Layout) (cs : l.count ≤ length l.controls) (ss : 0 < length l.sticks) (L : Every Old Element l) where
  bounded : Bounded l
  bounded = every_imp (λ e P. placed_element P tt) (λ e P. P) L

  key_row_in : {r : KeyRow} → RowIn r → Bounded (with_key_row_of l r)
  unfolding with_key_row_of
  key_row_in R =
      let A = actions_in l cs L.controls in
      let dx = in_more (minus 17500) (at 9100) (sub_in (sub_in (sub_in R.w (lit 16) tt) R.face tt) A.x tt) tt tt in
      let dy = in_more (minus 9300) (at 9300) (sub_in R.face_y A.y tt) tt tt in
      let dpad = dpad_in bounded (element_in (lit 16) R.face_y R.face R.face tt) in
      sticks_in (controls_in dpad (row_controls_in R dx dy l.count l.controls L.controls)) (row_sticks_in R l.sticks l.stickcount bounded.sticks)

  stick_in : AtMost (get_or l.sticks 0 any_rect).w (max_area + shrunk_margin)
  stick_in = (each_at Old 0 l.sticks any_rect ss L.sticks).w

  module _ {w h : Float} (W : In w (at 1) (at 8192)) (H : In h (at 1) (at 8192)) where
    row_bounded : T (not (tight_of (key_row_of l w h))) → Bounded (with_key_row_of l (key_row_of l w h))
    row_bounded t = key_row_in (row_in W H L.dpad.w stick_in t)

    pub landscape_bounded : (picture : Rect) (aspect : Float) → Bounded (fit_landscape_controls_of l w h picture aspect)
    landscape_bounded picture aspect = landscape_case l w h picture aspect Bounded bounded (λ t. place_bounded (row_bounded t) picture false k1 centred aspect)

    module _ {aspect : Float} {p q : ℕ} (S : Shape aspect p q) {picture : Rect} (A : Area picture) where
      pub landscape_game_in : BoundedGame l.game → BoundedGame (fit_landscape_controls_of l w h picture aspect).game
      landscape_game_in g =
          landscape_case l w h picture aspect (λ m. BoundedGame m.game) g
          (λ t. place_game_in_lem S (with_key_row_of l (key_row_of l w h)) (row_bounded t) A centred i0_5.whole i0_5.whole false k1 (lit 1).whole)

      pub landscape_widest : WidestGame p q picture aspect l → WidestGame p q picture aspect (fit_landscape_controls_of l w h picture aspect)
      landscape_widest g =
          landscape_case l w h picture aspect (WidestGame p q picture aspect) g (λ t. place_widest S (with_key_row_of l (key_row_of l w h)) (row_bounded t) A centred i0_5.whole i0_5.whole)
