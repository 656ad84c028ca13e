-- The default layouts are in range, on screens up to 8192 by 8192.
use mathlib.Core.Bool.{true, false, ◌||◌}
use mathlib.Core.List.{List, []}
use Prim.Native.Nat.{◌≤◌}
use lib.Ieee.{Float, lt, ne}
use lib.ListN.{length}
use Rattle.prelude.proofs.Booleans.{either}
use Rattle.prelude.specs.Each.{Each}
use Rattle.float.specs.Float.{◌⊗◌, ◌⊘◌, k0, k1, k1_35, k3, k4, k360}
use Rattle.float.specs.MinMax.{max_of}
use Rattle.geometry.specs.declared.Rect.{Rect}
use Rattle.geometry.specs.Rect.{new_of}
use Rattle.geometry.specs.Offset.{centred}
use Rattle.layout.specs.declared.Layout.{Layout}
use Rattle.layout.proofs.LabelLaws.{mode_holds}
use Rattle.numerics.specs.Rects.{Element, max_area, Area, OnScreen, Key, margin, shrunk_margin}
use Rattle.numerics.specs.Range.{In, at}
use Rattle.numerics.proofs.Bounds.{most_more, max_law, zero_most}
use Rattle.numerics.proofs.Ranges.{in_more, add_in, sub_in, div_in, max_in, above_zero, clamp_in, cond_in, range_most, from_zero, placed_in}
use Rattle.numerics.proofs.Literals.{lit, f2}
use Rattle.numerics.proofs.Shrunk.{Shrinks, shrunk_placed, placed_shrunk}
use Rattle.layout_ranges.specs.Bounded.{Arranged, Shrunk}
use Rattle.search.proofs.Layouts.{place_bounded}
use Rattle.layout_ranges.proofs.Changes.{arranged_shrunk, anchored_shrunk, dpad_in, psp_in, map_elements_in}
use Rattle.places.proofs.PlaceRanges.{Coordinate, coordinate, FacesIn, well_faces_in, PlacesIn, controls_placed}
use Rattle.arranged.proofs.ArrangedRanges.{finished_in_lem, arranged_in, side_rails_in}
use Rattle.band.proofs.BandRanges.{with_analog_in, band_in}
use Rattle.defaults.specs.declared.Size.{Size}
use Rattle.defaults.specs.declared.Sizes.{Sizes}
use Rattle.defaults.specs.declared.Halves.{Halves}
use Rattle.defaults.specs.Defaults.{default_in_of, size_halves_of, measure_halves_of, half_places_of, analog_full_of, size, scaled_rect_of, shrunk_of, analog_default_of, psp_of}
use Rattle.defaults.proofs.DefaultCases.{band_case, default_case}
use Rattle.defaults.proofs.DefaultLabels.{full_formed}

pub default_in_lem : {w h : Float} (cutouts : List Rect) {picture : Rect} → In w (at 0) (at 8192) → In h (at 0) (at 8192) → Each Element cutouts → Area picture → In picture.h (at 0) (at 8192)
    → Arranged (default_in_of w h cutouts picture)
default_in_lem {w} {h} cutouts {picture} W H C A high =
    default_case Arranged w h cutouts picture
    (λ compact. place_bounded (arranged_in compact W H) picture false k1 centred (k4 ⊘ k3))
    (place_bounded (side_rails_in cutouts W H high C) picture false k1 centred (k4 ⊘ k3))
    (band_in false false W H A)

-- ---- the screen as the picture's area
screen_area : {w h : Float} → In w (at 1) (at 8192) → In h (at 1) (at 8192) → Area (new_of k0 k0 w h)
screen_area W H =
    let zero = most_more zero_most max_area tt in
    record { x = zero; y = zero; w = range_most max_area W tt; h = range_most max_area H tt; w0 = above_zero W tt; h0 = above_zero H tt }

-- ---- `analog_full_of`
record SizesIn (s : Sizes) : Type 0 where
  pub bottom : In s.bottom (at 24) (at 32)
  pub stick : In s.stick (at 104) (at 128)
  pub face : In s.face (at 122) (at 184)
  pub column : In s.column (at 122) (at 192)
  pub shoulder : In s.shoulder (at 48) (at 96)

sizes_in : {w h : Float} → In w (at 360) (at 8192) → In h (at 360) (at 8192) → SizesIn (size_halves_of w h)
unfolding size_halves_of
sizes_in {w} {h} W H =
    let landscape = lt (h ⊗ k1_35) w in
    let bottom = in_more (at 24) (at 32) (cond_in landscape (clamp_in (sub_in H (lit 336) tt) (lit 24) (lit 32)) (lit 32)) tt tt in
    let half = div_in W f2 tt in
    let stick = in_more (at 104) (at 128) (cond_in landscape (lit 104) (clamp_in (sub_in half (lit 76) tt) (lit 104) (lit 128))) tt tt in
    let high = sub_in (sub_in (sub_in (sub_in (sub_in H (lit 56) tt) (lit 48) tt) (lit 16) tt) stick tt) bottom tt in
    let wide = sub_in half (lit 20) tt in
    let face = in_more (at 122) (at 184) (cond_in landscape (clamp_in high (lit 122) (lit 184)) (clamp_in wide (lit 122) (lit 184))) tt tt in
    let column = in_more (at 122) (at 192) (max_in face (add_in stick (lit 56) tt)) tt tt in
    let shoulder = in_more (at 48) (at 96) (cond_in (size_halves_of w h).middle (lit 88) (div_in (sub_in column (lit 8) tt) f2 tt)) tt tt in
    record { bottom = bottom; stick = stick; face = face; column = column; shoulder = shoulder }

record HalvesIn (b : Halves) : Type 0 where
  pub w : In b.w (at 360) (at 8192)
  pub stick : In b.stick (at 104) (at 128)
  pub face : In b.face (at 122) (at 184)
  pub shoulder : In b.shoulder (at 48) (at 96)
  pub digital_x : Coordinate b.digital_x
  pub main_y : Coordinate b.main_y
  pub face_y : Coordinate b.face_y
  pub faces : FacesIn b.faces
  pub x1 : In b.x1 (at 0) (at 256)
  pub x2 : In b.x2 (at 0) (at 256)
  pub y1 : Coordinate b.y1
  pub y2 : Coordinate b.y2

halves_in : {w h : Float} {s : Sizes} → In w (at 360) (at 8192) → In h (at 360) (at 8192) → SizesIn s → HalvesIn (measure_halves_of w h s)
unfolding measure_halves_of
halves_in {s = s} W H S =
    let mainY = sub_in (sub_in H S.bottom tt) S.stick tt in
    let faceY = sub_in (sub_in mainY (lit 8) tt) S.face tt in
    let inner = add_in (add_in (lit 16) S.column tt) (lit 8) tt in
    let above = sub_in faceY (lit 56) tt in
    let fx = coordinate (sub_in (sub_in W (lit 16) tt) (div_in S.column f2 tt) tt) tt in
    let fy = coordinate (add_in faceY (div_in S.face f2 tt) tt) tt in
    record {
      w = W;
      stick = S.stick;
      face = S.face;
      shoulder = S.shoulder;
      digital_x = coordinate (add_in (lit 16) (div_in (sub_in S.column S.face tt) f2 tt) tt) tt;
      main_y = coordinate mainY tt;
      face_y = coordinate faceY tt;
      faces = well_faces_in fx fy (in_more (at 122) (at 200) S.face tt tt);
      x1 = in_more (at 0) (at 256) (cond_in s.middle inner (add_in (lit 16) (lit 0) tt)) tt tt;
      x2 = in_more (at 0) (at 256) (cond_in s.middle inner (add_in (lit 16) (add_in S.shoulder (lit 8) tt) tt)) tt tt;
      y1 = coordinate (cond_in s.middle (add_in faceY (lit 56) tt) above) tt;
      y2 = coordinate (cond_in s.middle (add_in faceY (lit 0) tt) above) tt;
    }

half_places_in : {b : Halves} → HalvesIn b → PlacesIn (half_places_of b)
unfolding half_places_of
half_places_in B =
    let left = add_in (add_in (lit 16) B.stick tt) (lit 8) tt in
    let right = sub_in (sub_in (sub_in B.w (lit 16) tt) B.stick tt) (lit 56) tt in
    let lower = sub_in (add_in B.main_y B.stick tt) (lit 48) tt in
    record {
      faces = B.faces;
      l1 = placed_in B.x1 B.y1 B.shoulder (lit 48) tt;
      l2 = placed_in B.x2 B.y2 B.shoulder (lit 48) tt;
      r2 = placed_in (sub_in (sub_in B.w B.x2 tt) B.shoulder tt) B.y2 B.shoulder (lit 48) tt;
      r1 = placed_in (sub_in (sub_in B.w B.x1 tt) B.shoulder tt) B.y1 B.shoulder (lit 48) tt;
      select = placed_in left B.main_y (lit 48) (lit 48) tt;
      start = placed_in right B.main_y (lit 48) (lit 48) tt;
      l3 = placed_in left lower (lit 48) (lit 48) tt;
      r3 = placed_in right lower (lit 48) (lit 48) tt;
    }

full_in : {w h : Float} → In w (at 360) (at 8192) → In h (at 360) (at 8192) → Arranged (analog_full_of w h)
unfolding analog_full_of
full_in W H =
    let B = halves_in W H (sizes_in W H) in
    let places = half_places_in B in
    let wide = in_more (at 1) (at 8192) W tt tt in
    let high = in_more (at 1) (at 8192) H tt tt in
    let standard = default_in_lem [] (from_zero wide) (from_zero high) tt (screen_area wide high) (from_zero high) in
    let digital = dpad_in (controls_placed (λ r P. P) standard places) (placed_in B.digital_x B.face_y B.face B.face tt) in
    let left = placed_in (lit 16) B.main_y B.stick B.stick tt in
    let right = placed_in (sub_in (sub_in B.w (lit 16) tt) B.stick tt) B.main_y B.stick B.stick tt in
    with_analog_in digital places.l3 places.r3 left right

-- ---- `shrunk`
shrunk_layout_in : (l : Layout) {requested full : Size} → Shrinks requested.w full.w → Shrinks requested.h full.h
    → l.count ≤ length l.controls → l.stickcount ≤ length l.sticks → Arranged l → Shrunk (shrunk_of l requested full)
unfolding shrunk_of
shrunk_layout_in l {requested} {full} W H cs ss L =
    let scaled = scaled_rect_of requested full in
    either Shrunk (ne requested.w full.w || ne requested.h full.h)
    (map_elements_in (OnScreen margin) (Key margin) (OnScreen shrunk_margin) (Key shrunk_margin) scaled
    (λ r P. shrunk_placed W H P tt) (λ r P. shrunk_placed W H P tt) (λ r P. placed_shrunk P tt) l cs ss L)
    (arranged_shrunk L)

shrinks : {x : Float} → In x (at 1) (at 8192) → Shrinks x (max_of x k360)
shrinks {x} X = record { part = X; full = in_more (at 360) (at 8192) (max_in X (lit 360)) tt tt; less = (max_law 1 x k360 X.whole (lit 360).whole).first }

-- ---- `analog_default` and `psp`, on screens of 1 by 1 at least
module _ {w h : Float} (W : In w (at 1) (at 8192)) (H : In h (at 1) (at 8192)) where
  pub analog_in : Shrunk (analog_default_of w h)
  unfolding analog_default_of
  analog_in =
      let full = size (max_of w k360) (max_of h k360) in
      let layout = analog_full_of full.w full.h in
      let k = mode_holds true false layout (full_formed full.w full.h) in
      let shrunk = shrunk_layout_in layout {requested = size w h} {full = full} (shrinks W) (shrinks H) k.controls k.sticks (full_in (shrinks W).full (shrinks H).full) in
      let finished = anchored_shrunk (finished_in_lem (shrunk_of layout (size w h) full) (from_zero W) (from_zero H) shrunk) in
      let band = band_in true false (from_zero W) (from_zero H) (screen_area W H) in
      band_case Shrunk w h true (new_of k0 k0 w h) finished (λ l e. arranged_shrunk (band l e))

  pub psp_default_in : Shrunk (psp_of w h)
  unfolding psp_of
  psp_default_in = psp_in analog_in
