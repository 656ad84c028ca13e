-- The layout of `analog_camera_rails` is in range, on screens up to 8192 by 8192.
use mathlib.Core.Bool.{Bool, false, cond, not}
use mathlib.Core.List.{List, []}
use native.Mathlib.Omega.{arith}
use lib.Dec.{T}
use lib.Ieee.{Float, lt}
use Rattle.prelude.proofs.Booleans.{either}
use Rattle.prelude.specs.Lists.{filter_map}
use Rattle.prelude.specs.Each.{Each, ◌&◌}
use Rattle.prelude.proofs.EachLaws.{fold_ind, each_filter}
use Rattle.float.specs.Float.{◌⊖◌, ◌⊗◌, ◌⊘◌, k1, k2, k3, k4, k48, k122, k184, k272, k480}
use Rattle.float.specs.MinMax.{min_of}
use Rattle.geometry.specs.declared.Rect.{Rect}
use Rattle.geometry.specs.Offset.{centred}
use Rattle.numerics.specs.Value.{P, N, E}
use Rattle.numerics.specs.Rects.{Element, Area}
use Rattle.numerics.specs.Range.{In, at, minus}
use Rattle.numerics.proofs.Bounds.{sub_law, div_law}
use Rattle.numerics.proofs.Ranges.{in_reach, in_more, most_in, from_zero, area_side, add_in, sub_in, mul_in, div_in, min_in, cond_in, not_below, placed_in}
use Rattle.numerics.proofs.Literals.{lit, f2, f3, f4, psp_wide}
use Rattle.numerics.proofs.Shrunk.{signed_in, placed_shrunk}
use Rattle.layout.proofs.Found.{Given}
use Rattle.layout_ranges.specs.Bounded.{Bounded, Shrunk}
use Rattle.search.proofs.Layouts.{place_bounded}
use Rattle.layout_ranges.proofs.Changes.{shrunk_bounded, anchored_shrunk, dpad_in, sticks_in, psp_in}
use Rattle.search.specs.Search.{aspect_of}
use Rattle.toolbar.proofs.ToolbarRanges.{anchored_in, reusable_in}
use Rattle.places.proofs.PlaceRanges.{coordinate, well_faces_in, PlacesIn, controls_placed}
use Rattle.defaults.proofs.DefaultRanges.{analog_in}
use Rattle.cutouts.specs.Cutouts.{avoid_cutouts_of}
use Rattle.cutouts.proofs.CutoutRanges.{avoid_bounded}
use Rattle.camera_rails.specs.CameraRails.{measure_rail_of, in_rail_of, camera_top_of, size_face_of, camera_places_of, camera_railed_of, anchored_rails_of, analog_camera_rails_of}
use Rattle.camera_rails.proofs.CameraCases.{camera_rail, camera_face, camera_layout, camera_case}
use Rattle.camera_rails.proofs.CameraLabels.{anchored_holds}

-- ---- the rail
record RailIn (w rail : Float) : Type 0 where
  pub width : In rail (at 184) (at 4097)
  -- the right edge of the keys in the right rail
  pub right : In (w ⊖ (rail ⊖ k48)) (at 0) (at 8192)

-- the width of a picture of full height
wide_in : {high : Float} (psp : Bool) → In high (at 0) (at 8192) → In (cond psp (high ⊗ k480 ⊘ k272) (high ⊗ k4 ⊘ k3)) (minus 1) (at 16385)
wide_in psp H = in_more (minus 1) (at 16385) (cond_in psp (signed_in 2 (lit 480) (lit 272) psp_wide tt tt H tt tt) (div_in (mul_in H f4 tt) f3 tt)) tt tt

-- The rail is half the screen at most, and its keys lie inside it.
right_in : {w wide : Float} → In w (at 1) (at 8192) → In wide (minus 1) (at 16385) → In ((w ⊖ wide) ⊘ k2) (at 184) (at 4097) → In (w ⊖ ((w ⊖ wide) ⊘ k2 ⊖ k48)) (at 0) (at 8192)
unfolding P N E
right_in W F R =
    let left = sub_in W F tt in
    let inner = sub_in R (lit 48) tt in
    let right = in_more (minus 8192) (at 8192) (sub_in W inner tt) tt tt in
    let a = (sub_law 1 (in_reach W) (in_reach F) tt).over in
    let b = (div_law 1 (in_reach left) f2 tt).over in
    let c = (sub_law 1 (in_reach R) (in_reach (lit 48)) tt).over in
    let d = (sub_law 1 (in_reach W) (in_reach inner) tt).under in
    record { whole = right.whole; lo = omega (arith, W.lo, F.lo, (lit 48).lo); hi = right.hi }

rail_in : {w : Float} (psp : Bool) {picture : Rect} → In w (at 1) (at 8192) → Area picture → T (not (lt (measure_rail_of w picture psp) k184)) → RailIn w (measure_rail_of w picture psp)
unfolding measure_rail_of
rail_in psp W A t =
    let wide = wide_in psp (area_side A.h A.h0) in
    let rail = in_more (minus 8193) (at 4097) (div_in (sub_in W wide tt) f2 tt) tt tt in
    let room = not_below rail (lit 184) t in
    record { width = room; right = right_in W wide room }

-- ---- the digital well
camera_top_in : (w rail : Float) {h : Float} (cutouts : List Rect) → In h (at 1) (at 8192) → Each Element cutouts → In (camera_top_of w h rail cutouts) (minus 21875) (at 8192)
unfolding camera_top_of
camera_top_in w rail {h} cutouts H O =
    let tops = filter_map (in_rail_of w rail) (λ c. c.y) cutouts in
    fold_ind (λ y. In y (minus 21875) (at 8192)) (λ y. In y (minus 21875) (at 21875)) min_of (λ x y X Y. min_in X Y) tops h (in_more (minus 21875) (at 8192) H tt tt)
    (each_filter (in_rail_of w rail) (λ c. c.y) Element (λ y. In y (minus 21875) (at 21875)) (λ c C. most_in C.y tt) cutouts O)

face_in : (w : Float) {h rail : Float} (cutouts : List Rect) → In h (at 1) (at 8192) → In rail (at 184) (at 4097) → Each Element cutouts
    → T (not (lt (size_face_of w h rail cutouts) k122)) → In (size_face_of w h rail cutouts) (at 122) (at 184)
unfolding size_face_of
face_in w {rail = rail} cutouts H R O t =
    let below = sub_in (sub_in (camera_top_in w rail cutouts H O) (lit 32) tt) (lit 8) tt in
    let face = in_more (minus 24576) (at 184) (min_in (min_in (min_in (sub_in R (lit 8) tt) (lit 184)) below) (sub_in (sub_in H (lit 32) tt) (lit 224) tt)) tt tt in
    not_below face (lit 122) t

-- ---- the places of the controls
camera_places_in : {w rail face : Float} → In w (at 1) (at 8192) → RailIn w rail → In face (at 122) (at 184) → PlacesIn (camera_places_of w rail face)
unfolding camera_places_of
camera_places_in W R face =
    let y = add_in (add_in (lit 32) face tt) (lit 8) tt in
    let half = div_in face f2 tt in
    let left = sub_in R.width (lit 48) tt in
    let right = sub_in R.right (lit 48) tt in
    let y1 = add_in y (lit 52) tt in
    let y2 = add_in y (lit 104) tt in
    let y3 = add_in y (lit 156) tt in
    record {
      faces = well_faces_in (coordinate (sub_in (sub_in W (lit 4) tt) half tt) tt) (coordinate (add_in (lit 32) half tt) tt) (in_more (at 122) (at 200) face tt tt);
      l1 = placed_in left y1 (lit 48) (lit 48) tt;
      l2 = placed_in left y (lit 48) (lit 48) tt;
      r2 = placed_in right y (lit 48) (lit 48) tt;
      r1 = placed_in right y1 (lit 48) (lit 48) tt;
      select = placed_in left y2 (lit 48) (lit 48) tt;
      start = placed_in right y2 (lit 48) (lit 48) tt;
      l3 = placed_in left y3 (lit 48) (lit 48) tt;
      r3 = placed_in right y3 (lit 48) (lit 48) tt;
    }

-- ---- the layout
module _ {w h : Float} (W : In w (at 1) (at 8192)) (H : In h (at 1) (at 8192)) where
  railed_in : {rail face : Float} → RailIn w rail → In face (at 122) (at 184) → Shrunk (camera_railed_of w h rail face)
  unfolding camera_railed_of
  railed_in R face =
      let y = sub_in (sub_in H (lit 24) tt) (lit 128) tt in
      let L = dpad_in (controls_placed (λ r P. placed_shrunk P tt) (analog_in W H) (camera_places_in W R face)) (placed_in (lit 4) (lit 32) face face tt) in
      sticks_in L (placed_in (lit 4) y (lit 128) (lit 128) tt & placed_in (sub_in (sub_in W (lit 4) tt) (lit 128) tt) y (lit 128) (lit 128) tt & tt)

  module _ {picture : Rect} (A : Area picture) (psp : Bool) where
    anchored_rails_in : (cutouts : List Rect) → Each Element cutouts
        → T (not (lt (camera_rail w h picture cutouts psp) k184)) → T (not (lt (camera_face w h picture cutouts psp) k122)) → Shrunk (camera_layout w h picture cutouts psp)
    unfolding anchored_rails_of
    anchored_rails_in cutouts O r f =
        let R = rail_in psp W A r in
        let L = railed_in R (face_in w cutouts H R.width O f) in
        anchored_shrunk (anchored_in _ cutouts (from_zero W) (from_zero H) (reusable_in A) O (either Shrunk psp (psp_in L) L))

    pub camera_bounded : (cutouts : List Rect) → Each Element cutouts → Given Bounded (analog_camera_rails_of w h picture cutouts psp)
    camera_bounded cutouts O =
        let holds = anchored_holds w h (camera_rail w h picture cutouts psp) (camera_face w h picture cutouts psp) picture cutouts psp in
        let avoided = avoid_bounded (from_zero W) (from_zero H) (camera_layout w h picture cutouts psp) cutouts holds.controls holds.sticks in
        camera_case w h picture cutouts psp Bounded
        (λ r f. place_bounded (avoided (shrunk_bounded (anchored_rails_in cutouts O r f))) picture false k1 centred (aspect_of psp))

    -- with no cutouts no element moves
    pub camera_in : Given Shrunk (analog_camera_rails_of w h picture [] psp)
    unfolding avoid_cutouts_of
    camera_in = camera_case w h picture [] psp Shrunk (λ r f. place_bounded (anchored_rails_in [] tt r f) picture false k1 centred (aspect_of psp))
