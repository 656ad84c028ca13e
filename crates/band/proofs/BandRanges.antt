-- The layout of `controller_band` is in range.
use mathlib.Core.Bool.{Bool, true, false}
use mathlib.Core.List.{[]}
use Prim.Native.Nat.{◌+◌}
use lib.Ieee.{Float}
use lib.ListN.{set}
use Rattle.prelude.proofs.Booleans.{either}
use Rattle.prelude.specs.Each.{◌&◌}
use Rattle.prelude.proofs.EachLaws.{each_set}
use Rattle.float.specs.Float.{k1}
use Rattle.geometry.specs.declared.Rect.{Rect}
use Rattle.geometry.specs.Offset.{centred}
use Rattle.layout.specs.Layout.{control}
use Rattle.layout.specs.declared.Label.TheVariants.{L3, R3}
use Rattle.layout.specs.declared.Layout.{Layout}
use Rattle.numerics.specs.Rects.{Area}
use Rattle.numerics.specs.Range.{In, at, minus}
use Rattle.numerics.proofs.Ranges.{in_more, most_in, add_in, sub_in, mul_in, times_in, div_in, min_in, clamp_in, cond_in, not_below, placed_in}
use Rattle.numerics.proofs.Products.{scaled_in}
use Rattle.numerics.proofs.Literals.{lit, f0_75, f2, f4, f52, psp_high}
use Rattle.layout.proofs.Found.{Given}
use Rattle.layout.specs.Psp.{with_inputs_of}
use Rattle.layout_ranges.specs.Bounded.{Every, Arranged}
use Rattle.search.proofs.Layouts.{place_bounded}
use Rattle.layout_ranges.proofs.Changes.{dpad_in, psp_in}
use Rattle.search.specs.Search.{aspect_of}
use Rattle.toolbar.proofs.ToolbarRanges.{anchored_in, reusable_in}
use Rattle.places.proofs.PlaceRanges.{Coordinate, coordinate, FacesIn, well_faces_in, PlacesIn, empty_in, controls_placed}
use Rattle.arranged.proofs.ArrangedRanges.{arranged_in}
use Rattle.band.specs.declared.Room.{Room}
use Rattle.band.specs.declared.Band.{Band}
use Rattle.band.specs.Band.{find_room_of, measure_band_of, plain_places_of, deep_places_of, middle_places_of, band_places_of, with_analog_of, banded_of, controller_band_of}
use Rattle.band.proofs.BandCases.{band_room, band_layout, band_anchored, controller_band_case}

record RoomIn (r : Room) : Type 0 where
  pub available : In r.available (minus 24576) (at 24576)
  pub outer : In r.outer (at 8) (at 28)
  pub face : In r.face (minus 24576) (at 184)

room_in : {w h : Float} (analog psp : Bool) {picture : Rect} → In w (at 0) (at 8192) → In h (at 0) (at 8192) → Area picture → RoomIn (find_room_of w h analog psp picture)
unfolding find_room_of
room_in {w} {h} analog psp {picture} W H A =
    let deep = (find_room_of w h analog psp picture).deep in
    let high = cond_in psp (scaled_in 1 W (lit 272) (lit 480) psp_high tt) (mul_in W f0_75 tt) in
    let available = in_more (minus 24576) (at 24576) (sub_in (sub_in H (add_in (add_in (most_in A.y tt) (lit 18) tt) high tt) tt) (lit 4) tt) tt tt in
    let outer = cond_in deep (lit 8) (lit 28) in
    let inner = sub_in W (times_in f2 outer tt) tt in
    let wide = cond_in analog (div_in (sub_in (sub_in inner (lit 16) tt) (lit 204) tt) f4 tt) (div_in (sub_in inner (lit 288) tt) f2 tt) in
    record { available = available; outer = outer; face = in_more (minus 24576) (at 184) (cond_in deep (lit 128) (min_in (min_in available wide) (lit 184))) tt tt }

record BandIn (b : Band) : Type 0 where
  pub w : In b.w (at 0) (at 8192)
  pub h : In b.h (at 0) (at 8192)
  pub outer : In b.outer (at 8) (at 28)
  pub face : In b.face (at 122) (at 184)
  pub stick : In b.stick (at 122) (at 184)
  pub digital_x : In b.digital_x (at 0) (at 256)
  pub main_y : Coordinate b.main_y
  pub faces : FacesIn b.faces

measured_in : {w h : Float} (analog : Bool) {room : Room} → In w (at 0) (at 8192) → In h (at 0) (at 8192) → RoomIn room → In room.face (at 122) (at 184) → BandIn (measure_band_of w h analog room)
unfolding measure_band_of
measured_in analog {room} W H R face =
    let stick = cond_in room.deep (lit 176) face in
    let gap = clamp_in (sub_in (sub_in R.available face tt) (lit 48) tt) (lit 8) (lit 16) in
    let low = sub_in H (lit 4) tt in
    let y = cond_in room.deep (sub_in (sub_in (sub_in low (lit 48) tt) gap tt) face tt) (sub_in low face tt) in
    let x = in_more (at 0) (at 256) (cond_in analog (add_in (add_in R.outer stick tt) (lit 8) tt) R.outer) tt tt in
    let half = div_in face f2 tt in
    record {
      w = W;
      h = H;
      outer = R.outer;
      face = face;
      stick = stick;
      digital_x = x;
      main_y = coordinate y tt;
      faces = well_faces_in (coordinate (sub_in (sub_in W x tt) half tt) tt) (coordinate (add_in y half tt) tt) (in_more (at 122) (at 200) face tt tt);
    }

-- ---- the places of the controls
module _ {b : Band} (B : BandIn b) where
  plain_in : PlacesIn (plain_places_of b)
  unfolding plain_places_of
  plain_in =
      let x = add_in (add_in B.outer B.face tt) (lit 8) tt in
      let right = sub_in B.w x tt in
      let half = div_in B.w f2 tt in
      let low = sub_in (sub_in B.h (lit 4) tt) (lit 80) tt in
      record {
        faces = B.faces;
        l1 = placed_in x B.main_y (lit 64) (lit 64) tt;
        l2 = placed_in (add_in x (lit 72) tt) B.main_y (lit 64) (lit 64) tt;
        r1 = placed_in (sub_in right (lit 64) tt) B.main_y (lit 64) (lit 64) tt;
        r2 = placed_in (sub_in right (lit 136) tt) B.main_y (lit 64) (lit 64) tt;
        select = placed_in (sub_in half (lit 104) tt) low (lit 80) (lit 80) tt;
        start = placed_in (add_in half (lit 24) tt) low (lit 80) (lit 80) tt;
        l3 = empty_in;
        r3 = empty_in;
      }

  deep_in : PlacesIn (deep_places_of b)
  unfolding deep_places_of
  deep_in =
      let right = sub_in B.w B.digital_x tt in
      let half = div_in B.w f2 tt in
      let low = sub_in (sub_in B.h (lit 4) tt) (lit 48) tt in
      let upper = sub_in low (lit 48) tt in
      record {
        faces = B.faces;
        l1 = placed_in B.digital_x low (lit 48) (lit 48) tt;
        l2 = placed_in (add_in B.digital_x (lit 56) tt) low (lit 48) (lit 48) tt;
        l3 = placed_in (add_in B.digital_x (lit 112) tt) low (lit 48) (lit 48) tt;
        r1 = placed_in (sub_in right (lit 48) tt) low (lit 48) (lit 48) tt;
        r2 = placed_in (sub_in right (lit 104) tt) low (lit 48) (lit 48) tt;
        r3 = placed_in (sub_in right (lit 160) tt) low (lit 48) (lit 48) tt;
        select = placed_in (sub_in half (lit 52) tt) upper (lit 48) (lit 48) tt;
        start = placed_in (add_in half (lit 4) tt) upper (lit 48) (lit 48) tt;
      }

  middle_in : PlacesIn (middle_places_of b)
  unfolding middle_places_of
  middle_in =
      let x = div_in (sub_in B.w (lit 204) tt) f2 tt in
      let y = sub_in (sub_in B.h (lit 4) tt) (lit 100) tt in
      let none = mul_in (lit 0) f52 tt in
      let one = mul_in (lit 1) f52 tt in
      let x0 = add_in x none tt in
      let x1 = add_in x one tt in
      let x2 = add_in x (mul_in (lit 2) f52 tt) tt in
      let x3 = add_in x (mul_in (lit 3) f52 tt) tt in
      let upper = add_in y none tt in
      let lower = add_in y one tt in
      record {
        faces = B.faces;
        l1 = placed_in x0 upper (lit 48) (lit 48) tt;
        l2 = placed_in x1 upper (lit 48) (lit 48) tt;
        r2 = placed_in x2 upper (lit 48) (lit 48) tt;
        r1 = placed_in x3 upper (lit 48) (lit 48) tt;
        l3 = placed_in x0 lower (lit 48) (lit 48) tt;
        select = placed_in x1 lower (lit 48) (lit 48) tt;
        start = placed_in x2 lower (lit 48) (lit 48) tt;
        r3 = placed_in x3 lower (lit 48) (lit 48) tt;
      }

  band_places_in : (analog deep : Bool) → PlacesIn (band_places_of analog deep b)
  band_places_in true true = deep_in
  band_places_in true false = middle_in
  band_places_in false deep = plain_in

-- ---- the layout
pub with_analog_in : {C D : Rect → Type 0} {l : Layout} {l3 r3 left right : Rect} → Every C D l → C l3 → C r3 → C left → C right → Every C D (with_analog_of l l3 r3 left right)
unfolding with_analog_of
with_analog_in {C} {l = l} {l3 = l3} {r3 = r3} L e f left right =
    record {
      dpad = L.dpad;
      controls = each_set (λ c. C c.bounds) (l.count + 1) (set l.controls l.count (control l3 L3)) (control r3 R3) (each_set (λ c. C c.bounds) l.count l.controls (control l3 L3) L.controls e) f;
      pause = L.pause;
      playback = L.playback;
      speed = L.speed;
      mute = L.mute;
      sticks = left & right & tt;
    }

banded_in : {w h : Float} (analog deep : Bool) {b : Band} → In w (at 0) (at 8192) → In h (at 0) (at 8192) → BandIn b → Arranged (banded_of w h analog deep b)
unfolding banded_of
banded_in {w} {h} analog deep {b} W H B =
    let places = band_places_in B analog deep in
    let placed = dpad_in (controls_placed (λ r P. P) (arranged_in false W H) places) (placed_in B.digital_x B.main_y B.face B.face tt) in
    let y = sub_in (sub_in B.h (lit 4) tt) B.stick tt in
    let left = placed_in B.outer y B.stick B.stick tt in
    let right = placed_in (sub_in (sub_in B.w B.outer tt) B.stick tt) y B.stick B.stick tt in
    either Arranged analog (with_analog_in placed places.l3 places.r3 left right) placed

pub band_in : {w h : Float} (analog psp : Bool) {picture : Rect} → In w (at 0) (at 8192) → In h (at 0) (at 8192) → Area picture → Given Arranged (controller_band_of w h analog psp picture)
band_in {w} {h} analog psp {picture} W H A =
    controller_band_case w h analog psp picture Arranged (λ t. place_bounded (inputs (anchored (not_below R.face (lit 122) t))) picture false k1 centred (aspect_of psp))
  where
    room : Room
    room = band_room w h analog psp picture

    R : RoomIn room
    R = room_in analog psp W H A

    layout : Layout
    layout = band_anchored w h analog psp picture

    anchored : In room.face (at 122) (at 184) → Arranged layout
    anchored face =
        let L = banded_in analog room.deep W H (measured_in analog W H R face) in
        anchored_in (band_layout w h analog psp picture) [] W H (reusable_in A) tt L

    inputs : Arranged layout → Arranged (with_inputs_of layout psp)
    inputs L = either Arranged psp (psp_in L) L
