-- The layout of `controls` is in range, about any game in range. The tests bound the wells and the sticks; for the rest coarse ranges suffice.
use mathlib.Core.Bool.{Bool, true, false, not, ◌&&◌, cond}
use mathlib.Core.List.{List}
use Prim.Native.Nat.{ℕ}
use lib.Dec.{T, leb}
use lib.Ieee.{Float, lt}
use Rattle.prelude.specs.Each.{◌&◌}
use Rattle.float.specs.Float.{◌⊕◌, ◌⊖◌, ◌⊗◌, ◌⊘◌, k0, k2, k3, k4, k12, k14, k24, k64, k96}
use Rattle.float.specs.MinMax.{min_of, max_of, clamp_of}
use Rattle.geometry.specs.declared.Rect.{Rect}
use Rattle.geometry.specs.Rect.{new_of}
use Rattle.layout.specs.declared.Label.{Label}
use Rattle.layout.specs.declared.Label.TheVariants.{Tri, O, X, Sq, L1, L2, R2, R1, Select, Start, L3, R3}
use Rattle.layout.specs.declared.Layout.{Layout}
use Rattle.numerics.specs.Value.{AtMost}
use Rattle.numerics.specs.Rects.{max_corner, Element}
use Rattle.numerics.specs.Range.{In, at, minus}
use Rattle.numerics.proofs.Bounds.{add_most}
use Rattle.numerics.proofs.Ranges.{in_more, add_in, sub_in, times_in, div_in, min_in, max_in, clamp_in, clamp_whole_in, cond_in, neg_in, not_below, range_most, from_zero, element_in}
use Rattle.numerics.proofs.Literals.{lit, i4√2, f1√2, f2, f3, f4}
use Rattle.layout.proofs.Found.{Given}
use Rattle.layout_ranges.specs.Bounded.{Bounded, BoundedGame}
use Rattle.layout_ranges.proofs.Changes.{shrunk_bounded, arranged_bounded, dpad_in, sticks_in}
use Rattle.places.specs.declared.Places.{Places}
use Rattle.places.specs.Places.{cap_of, at_of}
use Rattle.places.proofs.PlaceRanges.{every_placed}
use Rattle.arranged.proofs.ArrangedRanges.{arranged_in}
use Rattle.defaults.proofs.DefaultRanges.{analog_in, psp_default_in}
use Rattle.picture.specs.declared.Row.{Row}
use Rattle.picture.specs.declared.Stack.{Stack}
use Rattle.picture.specs.Picture.{gap, key, min_well, diamond_of, auxiliary_of, arrange_of, square_of, measure_stack_of, stacked_of, vertical_of, measure_row_of, with_x, center_keys_of, row_places_of, rowed_of, horizontal_of, base_of, controls_of}
use Rattle.picture.proofs.PictureCases.{vertical_case, horizontal_case, first_case}

-- a length of the screen, of either sign
abbrev Span : Float → Type 0
Span x = In x (minus 8192) (at 8193)

abbrev span : {x : Float} {a b : ℕ} → In x a b → T (leb (minus 8192) a) → T (leb b (at 8193)) → Span x
span i s t = in_more (minus 8192) (at 8193) i s t

-- a coordinate that was added up of such lengths
abbrev Coarse : Float → Type 0
Coarse x = In x (minus 20480) (at 20480)

abbrev coarse : {x : Float} {a b : ℕ} → In x a b → T (leb (minus 20480) a) → T (leb b (at 20480)) → Coarse x
coarse i s t = in_more (minus 20480) (at 20480) i s t

-- a column, or a band
record ColumnIn (r : Rect) : Type 0 where
  pub x : Span r.x
  pub y : Span r.y
  pub w : Span r.w
  pub h : Span r.h

column_in : {x y w h : Float} → Span x → Span y → Span w → Span h → ColumnIn (new_of x y w h)
column_in x y w h = record { x = x; y = y; w = w; h = h }

-- ---- the places of the controls
abbrev PlacesIn : Places → Type 0
PlacesIn p = (label : Label) → Element (at_of p label)

module _ {x y well shoulders system : Float} {left right : Rect} (fx : Coarse x) (fy : Coarse y) (face : In well (at 112) (at 164)) (L : ColumnIn left) (R : ColumnIn right) (upper : Coarse shoulders) (lower : Coarse system) where
  cap : In (cap_of well) (at 44) (at 66)
  cap = in_more (at 44) (at 66) (div_in (sub_in face i4√2 tt) f1√2 tt) tt tt

  step : In ((well ⊖ cap_of well) ⊘ k2) (at 16) (at 64)
  step = in_more (at 16) (at 64) (div_in (sub_in face cap tt) f2 tt) tt tt

  pair : In (clamp_of ((left.w ⊖ k12 ⊖ gap) ⊘ k2) key k64) (at 44) (at 64)
  pair = clamp_in (div_in (sub_in (sub_in L.w (lit 12) tt) (lit 8) tt) f2 tt) (lit 44) (lit 64)

  edge : {r : Rect} → ColumnIn r → In (r.x ⊕ (r.w ⊖ k2 ⊗ clamp_of ((left.w ⊖ k12 ⊖ gap) ⊘ k2) key k64 ⊖ gap) ⊘ k2) (minus 16384) (at 16384)
  edge C = in_more (minus 16384) (at 16384) (add_in C.x (div_in (sub_in (sub_in C.w (times_in f2 pair tt) tt) (lit 8) tt) f2 tt) tt) tt tt

  auxiliary_in : PlacesIn (auxiliary_of (diamond_of (new_of x y well well)) left right shoulders system)
  unfolding auxiliary_of diamond_of at_of
  auxiliary_in Tri = element_in (add_in (add_in fx step tt) (lit 0) tt) (add_in (add_in fy step tt) (neg_in step tt) tt) cap cap tt
  auxiliary_in O = element_in (add_in (add_in fx step tt) step tt) (add_in (add_in fy step tt) (lit 0) tt) cap cap tt
  auxiliary_in X = element_in (add_in (add_in fx step tt) (lit 0) tt) (add_in (add_in fy step tt) step tt) cap cap tt
  auxiliary_in Sq = element_in (add_in (add_in fx step tt) (neg_in step tt) tt) (add_in (add_in fy step tt) (lit 0) tt) cap cap tt
  auxiliary_in L1 = element_in (edge L) upper pair (lit 44) tt
  auxiliary_in L2 = element_in (add_in (add_in (edge L) pair tt) (lit 8) tt) upper pair (lit 44) tt
  auxiliary_in R2 = element_in (edge R) upper pair (lit 44) tt
  auxiliary_in R1 = element_in (add_in (add_in (edge R) pair tt) (lit 8) tt) upper pair (lit 44) tt
  auxiliary_in Select = element_in (add_in L.x (lit 6) tt) lower (lit 64) (lit 44) tt
  auxiliary_in Start = element_in (sub_in (add_in R.x R.w tt) (lit 70) tt) lower (lit 64) (lit 44) tt
  auxiliary_in L3 = element_in (sub_in (add_in L.x L.w tt) (lit 50) tt) lower (lit 44) (lit 44) tt
  auxiliary_in R3 = element_in (add_in R.x (lit 6) tt) lower (lit 44) (lit 44) tt

with_x_in : {r : Rect} {x : Float} → Element r → Coarse x → Element (with_x r x)
with_x_in E x = record { x = range_most max_corner x tt; y = E.y; w = E.w; h = E.h }

center_in : (p : Places) {center : Float} → PlacesIn p → Span center → PlacesIn (center_keys_of p center)
unfolding at_of
center_in p P center Tri = P Tri
center_in p P center O = P O
center_in p P center X = P X
center_in p P center Sq = P Sq
center_in p P center L1 = P L1
center_in p P center L2 = P L2
center_in p P center R2 = P R2
center_in p P center R1 = P R1
center_in p P center Select = with_x_in (P Select) (coarse (sub_in center (lit 68) tt) tt tt)
center_in p P center Start = with_x_in (P Start) (coarse (add_in center (lit 4) tt) tt tt)
center_in p P center L3 = with_x_in (P L3) (coarse (sub_in center (lit 120) tt) tt tt)
center_in p P center R3 = with_x_in (P R3) (coarse (add_in center (lit 76) tt) tt tt)

-- ---- a layout with its controls there
arrange_in : {l : Layout} {dpad first second : Rect} (places : Places) → Bounded l → Element dpad → PlacesIn places → Element first → Element second → Bounded (arrange_of l dpad places first second)
unfolding arrange_of
arrange_in places B dpad P first second = sticks_in (dpad_in (every_placed places B P) dpad) (first & second & tt)

-- ---- `vertical`
record StackIn (s : Stack) : Type 0 where
  pub bottom : In s.bottom (minus 16640) (at 16640)
  pub stick : In s.stick (at 0) (at 128)
  pub well : In s.well (at 112) (at 164)

module _ {left right : Rect} (L : ColumnIn left) (R : ColumnIn right) where
  width_in : Span (min_of left.w right.w)
  width_in = min_in L.w R.w

  bottom_in : In (min_of (left.y ⊕ left.h) (right.y ⊕ right.h) ⊖ k14) (minus 16640) (at 16640)
  bottom_in = in_more (minus 16640) (at 16640) (sub_in (min_in (add_in L.y L.h tt) (add_in R.y R.h tt)) (lit 14) tt) tt tt

  -- the height between the two rows of keys
  height_in : In (min_of (left.y ⊕ left.h) (right.y ⊕ right.h) ⊖ k14 ⊖ max_of (max_of left.y right.y) k24 ⊖ k2 ⊗ key) (minus 25600) (at 25600)
  height_in = in_more (minus 25600) (at 25600) (sub_in (sub_in bottom_in (max_in (max_in L.y R.y) (lit 24)) tt) (times_in f2 (lit 44) tt) tt) tt tt

  stick_in : (analog : Bool) → T (not (analog && lt (measure_stack_of left right analog).stick k96)) → In (measure_stack_of left right analog).stick (at 0) (at 128)
  unfolding measure_stack_of
  stick_in true t = in_more (at 0) (at 128) (not_below (min_in (clamp_in (sub_in width_in (lit 12) tt) (lit 96) (lit 128)) (sub_in (sub_in height_in (times_in f3 (lit 8) tt) tt) (lit 112) tt)) (lit 96) t) tt tt
  stick_in false t = in_more (at 0) (at 128) (lit 0) tt tt

  stack_in : (analog : Bool) → T (not (analog && lt (measure_stack_of left right analog).stick k96)) → T (not (lt (measure_stack_of left right analog).well min_well)) → StackIn (measure_stack_of left right analog)
  unfolding measure_stack_of
  stack_in analog s t =
      let stick = stick_in analog s in
      let well = min_in (min_in (sub_in width_in (lit 12) tt) (lit 164)) (sub_in (sub_in height_in (times_in f2 (lit 8) tt) tt) (cond_in analog (add_in stick (lit 8) tt) (lit 0)) tt) in
      record { bottom = bottom_in; stick = stick; well = in_more (at 112) (at 164) (not_below well (lit 112) t) tt tt }

square_in : {column : Rect} {y size : Float} → ColumnIn column → Coarse y → In size (at 0) (at 164) → Element (square_of column y size)
square_in C y size = element_in (add_in C.x (div_in (sub_in C.w size tt) f2 tt) tt) y size size tt

stacked_in : {base : Layout} {left right : Rect} (analog : Bool) {s : Stack} → Bounded base → ColumnIn left → ColumnIn right → StackIn s → Bounded (stacked_of base left right analog s)
unfolding stacked_of
stacked_in analog B L R S =
    let well = in_more (at 0) (at 164) S.well tt tt in
    let stick = in_more (at 0) (at 164) S.stick tt tt in
    let system = sub_in S.bottom (lit 44) tt in
    let primary = sub_in (sub_in system (lit 8) tt) S.stick tt in
    let digital = cond_in analog (sub_in (sub_in primary (lit 8) tt) S.well tt) (sub_in (sub_in system (lit 8) tt) S.well tt) in
    let low = coarse primary tt tt in
    let middle = coarse digital tt tt in
    let x = coarse (add_in R.x (div_in (sub_in R.w S.well tt) f2 tt) tt) tt tt in
    arrange_in _ B (square_in L middle well)
    (auxiliary_in x middle S.well L R (coarse (sub_in (sub_in digital (lit 8) tt) (lit 44) tt) tt tt) (coarse system tt tt))
    (square_in L low stick)
    (square_in R low stick)

vertical_in : {base : Layout} {left right : Rect} (analog : Bool) → Bounded base → ColumnIn left → ColumnIn right → Given Bounded (vertical_of base left right analog)
vertical_in {base} {left} {right} analog B L R = vertical_case Bounded base left right analog (λ s t. stacked_in analog B L R (stack_in L R analog s t))

-- ---- `horizontal`
record RowIn (r : Row) : Type 0 where
  pub well : In r.well (at 112) (at 164)
  pub top : In r.top (minus 16384) (at 16384)
  pub y : In r.y (minus 16384) (at 16640)
  pub digital : In r.digital (at 12) (at 256)
  pub rightdigital : In r.rightdigital (at 12) (at 256)
  pub span : In r.span (at 112) (at 384)
  pub middleleft : In r.middleleft (at 0) (at 512)
  pub middleright : Span r.middleright

columns_in : {x : Float} (analog psp : Bool) → Span x → Span (x ⊘ cond psp k3 (cond analog k4 k2))
columns_in analog true i = span (div_in i f3 tt) tt tt
columns_in true false i = span (div_in i f4 tt) tt tt
columns_in false false i = span (div_in i f2 tt) tt tt

row_in : {w : Float} {band : Rect} (analog psp : Bool) → In w (at 1) (at 8192) → ColumnIn band → T (not (lt (measure_row_of w band analog psp).well min_well)) → RowIn (measure_row_of w band analog psp)
unfolding measure_row_of
row_in analog psp W B t =
    let required = cond_in (analog && not psp) (lit 240) (lit 136) in
    let between = cond_in psp (lit 8) (cond_in analog (times_in f2 (lit 8) tt) (lit 0)) in
    let wide = columns_in analog psp (span (sub_in (sub_in (sub_in (sub_in W (lit 24) tt) between tt) (times_in f2 (lit 8) tt) tt) required tt) tt tt) in
    let high = sub_in (sub_in (sub_in B.h (lit 44) tt) (times_in f2 (lit 8) tt) tt) (lit 12) tt in
    let well = in_more (at 112) (at 164) (not_below (min_in (min_in wide high) (lit 164)) (lit 112) t) tt tt in
    let top = in_more (minus 16384) (at 16384) (add_in B.y (div_in (sub_in (sub_in (sub_in B.h well tt) (lit 44) tt) (lit 8) tt) f2 tt) tt) tt tt in
    let digital = in_more (at 12) (at 256) (cond_in analog (add_in (add_in (lit 12) well tt) (lit 8) tt) (lit 12)) tt tt in
    let right = in_more (at 12) (at 256) (cond_in psp (lit 12) digital) tt tt in
    record {
      well = well;
      top = top;
      y = in_more (minus 16384) (at 16640) (add_in (add_in top (lit 44) tt) (lit 8) tt) tt tt;
      digital = digital;
      rightdigital = right;
      span = in_more (at 112) (at 384) (cond_in analog (add_in (times_in f2 well tt) (lit 8) tt) well) tt tt;
      middleleft = in_more (at 0) (at 512) (add_in (add_in digital well tt) (lit 8) tt) tt tt;
      middleright = span (sub_in (sub_in (sub_in W right tt) well tt) (lit 8) tt) tt tt;
    }

rowed_in : {base : Layout} {w : Float} {row : Row} → Bounded base → In w (at 1) (at 8192) → RowIn row → Bounded (rowed_of base w row)
unfolding rowed_of row_places_of
rowed_in B W R =
    let well = R.well in
    let y = coarse R.y tt tt in
    let zero = span (lit 0) tt tt in
    let inner = sub_in W (lit 12) tt in
    let x = coarse (sub_in (sub_in W R.rightdigital tt) well tt) tt tt in
    let wide = span R.span tt tt in
    let left = column_in (span (lit 12) tt tt) zero wide zero in
    let right = column_in (span (sub_in inner R.span tt) tt tt) zero wide zero in
    let keys = auxiliary_in x y well left right (coarse R.top tt tt) (coarse (sub_in (add_in R.y well tt) (lit 44) tt) tt tt) in
    let center = span (div_in (add_in R.middleleft R.middleright tt) f2 tt) tt tt in
    arrange_in _ B (element_in R.digital y well well tt) (center_in _ keys center) (element_in (lit 12) y well well tt) (element_in (sub_in inner well tt) y well well tt)

horizontal_in : {base : Layout} {w : Float} {band : Rect} (analog psp : Bool) → Bounded base → In w (at 1) (at 8192) → ColumnIn band → Given Bounded (horizontal_of base w band analog psp)
horizontal_in {base} {w} {band} analog psp B W C = horizontal_case Bounded base w band analog psp (λ t. rowed_in B W (row_in analog psp W C t))

-- ---- `controls`
clamped_in : {x e : Float} {n : ℕ} → AtMost x n → In e (at 1) (at 8192) → In (clamp_of x k0 e) (at 0) (at 8192)
clamped_in {x} f i = clamp_whole_in x f.whole (lit 0) i

module _ {w h : Float} (W : In w (at 1) (at 8192)) (H : In h (at 1) (at 8192)) where
  base_in : (analog psp : Bool) → Bounded (base_of w h analog psp)
  unfolding base_of
  base_in analog true = shrunk_bounded (psp_default_in W H)
  base_in true false = shrunk_bounded (analog_in W H)
  base_in false false = arranged_bounded (arranged_in false (from_zero W) (from_zero H))

  pub controls_in : {game : Rect} (analog psp : Bool) (holes : List Rect) → BoundedGame game → Given Bounded (controls_of w h game analog psp holes)
  unfolding controls_of
  controls_in analog psp holes G =
      let B = base_in analog psp in
      let zero = span (lit 0) tt tt in
      let high = span H tt tt in
      let half = span (div_in W f2 tt) tt tt in
      let bottom = clamped_in (add_most G.y G.h tt) H in
      let low = span bottom tt tt in
      let rest = span (sub_in H bottom tt) tt tt in
      let left = column_in zero zero (span (clamped_in G.x W) tt tt) high in
      let x = clamped_in (add_most G.x G.w tt) W in
      let right = column_in (span x tt tt) zero (span (sub_in W x tt) tt tt) high in
      first_case Bounded _ _
      (horizontal_in analog psp B W (column_in zero low (span W tt tt) rest)
      & vertical_in analog B (column_in zero low half rest) (column_in half low half rest)
      & vertical_in analog B left right
      & tt)
