-- The layouts of `arranged` and `side_rails` are in range.
use mathlib.Core.Bool.{Bool, false, ◌||◌}
use mathlib.Core.List.{List, []}
use lib.Ieee.{Float, lt}
use lib.ListN.{replicate}
use Rattle.prelude.proofs.Booleans.{by_test}
use Rattle.prelude.specs.Each.{Each, ◌&◌}
use Rattle.prelude.proofs.EachLaws.{fold_ind}
use Rattle.float.specs.Float.{◌⊖◌, ◌⊘◌, k0, k1, k3, k4, k16, k122}
use Rattle.geometry.specs.declared.Rect.{Rect}
use Rattle.geometry.specs.Rect.{new_of, empty_rect, overlaps_of}
use Rattle.geometry.specs.Offset.{centred}
use Rattle.layout.specs.declared.Layout.{Layout}
use Rattle.numerics.specs.Rects.{Element, Key, margin}
use Rattle.numerics.specs.Range.{In, at, minus}
use Rattle.numerics.proofs.Ranges.{in_more, most_in, add_in, sub_in, mul_in, times_in, div_in, min_in, max_in, clamp_in, cond_in, not_below, placed_in}
use Rattle.numerics.proofs.Literals.{lit, f0_4, f2, f3, f4}
use Rattle.layout_ranges.specs.Bounded.{Every, Arranged}
use Rattle.search.proofs.Layouts.{place_bounded}
use Rattle.layout_ranges.proofs.Changes.{dpad_in}
use Rattle.toolbar.proofs.ToolbarRanges.{anchored_in}
use Rattle.places.specs.declared.Faces.{Faces}
use Rattle.places.proofs.PlaceRanges.{coordinate, step_in, FacesIn, faces_in, well_faces_in, PlacesIn, empty_in, controller_in, controls_placed}
use Rattle.arranged.specs.Arranged.{finished_of, dock_places_of, docked_of, arranged_of, rail_places_of, railed_of, requested_of, give_way_of, cluster_of, side_rails_of}

pub finished_in_lem : {C D : Rect → Type 0} (l : Layout) {w h : Float} → In w (at 0) (at 8192) → In h (at 0) (at 8192) → Every C D l → Every C (Key margin) (finished_of l w h)
unfolding finished_of
finished_in_lem l {w} {h} W H L = place_bounded (anchored_in l [] W H (in_more (at 0) (at 8192) (lit 0) tt tt) tt L) (new_of k0 k0 w h) false k1 centred (k4 ⊘ k3)

-- ---- `arranged`
dock_places_in : {w h cluster : Float} (compact : Bool) (dpad : Rect) {faces : Faces} → In w (at 0) (at 8192) → In h (at 0) (at 8192) → In cluster (at 128) (at 224)
    → In dpad.x (at 16) (at 16) → In dpad.y (minus 320) (at 8192) → FacesIn faces → PlacesIn (dock_places_of w h compact cluster dpad faces)
unfolding dock_places_of
dock_places_in compact dpad W H cluster x y faces =
    let shoulderWidth = in_more (at 56) (at 112) (div_in (sub_in cluster (lit 8) tt) f2 tt) tt tt in
    let half = div_in W f2 tt in
    let inner = sub_in W (lit 16) tt in
    let left = add_in (add_in x cluster tt) (lit 8) tt in
    let right = sub_in (sub_in (sub_in inner cluster tt) (lit 8) tt) shoulderWidth tt in
    let above = sub_in y (lit 56) tt in
    let y1 = cond_in compact (add_in y (lit 56) tt) above in
    let y2 = cond_in compact (add_in y (lit 0) tt) above in
    let systemY = sub_in H (cond_in compact (lit 56) (lit 64)) tt in
    record {
      faces = faces;
      l1 = placed_in (cond_in compact left (lit 16)) y1 shoulderWidth (lit 48) tt;
      l2 = placed_in (cond_in compact left (add_in (lit 24) shoulderWidth tt)) y2 shoulderWidth (lit 48) tt;
      r2 = placed_in (cond_in compact right (sub_in inner cluster tt)) y2 shoulderWidth (lit 48) tt;
      r1 = placed_in (cond_in compact right (sub_in inner shoulderWidth tt)) y1 shoulderWidth (lit 48) tt;
      select = placed_in (cond_in compact left (max_in (sub_in half (lit 196) tt) (lit 16))) systemY (lit 96) (lit 48) tt;
      start = placed_in (cond_in compact right (min_in (add_in half (lit 100) tt) (sub_in W (lit 112) tt))) systemY (lit 96) (lit 48) tt;
      l3 = empty_in;
      r3 = empty_in;
    }

pub arranged_in : {w h : Float} (compact : Bool) → In w (at 0) (at 8192) → In h (at 0) (at 8192) → Arranged (arranged_of w h compact)
unfolding arranged_of docked_of
arranged_in {w} {h} compact W H =
    let cluster = min_in (clamp_in (sub_in (div_in W f2 tt) (lit 20) tt) (lit 128) (lit 224)) (max_in (sub_in H (lit 140) tt) (lit 128)) in
    let size = clamp_in (mul_in cluster f0_4 tt) (lit 48) (lit 84) in
    let wellHeight = in_more (at 128) (at 224) (cond_in compact (max_in (min_in cluster (lit 200)) (add_in (mul_in size f2 tt) (lit 16) tt)) cluster) tt tt in
    let half = div_in wellHeight f2 tt in
    let offset = step_in (div_in (sub_in cluster size tt) f2 tt) tt tt in
    let fy = sub_in (sub_in H (cond_in compact (lit 32) (lit 76)) tt) half tt in
    let fx = sub_in (sub_in W (lit 16) tt) (div_in cluster f2 tt) tt in
    let y = in_more (minus 320) (at 8192) (sub_in fy half tt) tt tt in
    let vertical = step_in (div_in (sub_in wellHeight size tt) f2 tt) tt tt in
    let faces = faces_in (coordinate fx tt) (coordinate fy tt) offset vertical size in
    let places = dock_places_in compact _ W H cluster (lit 16) y faces in
    let dpad = placed_in (lit 16) y cluster wellHeight tt in
    finished_in_lem (docked_of w h compact) W H (controller_in 10 (replicate 2 empty_rect) 0 places dpad (empty_in & empty_in & tt))

-- ---- `side_rails`
rail_places_in : {w mainY cluster : Float} → In w (at 0) (at 8192) → In mainY (minus 256) (at 8192) → In cluster (at 122) (at 200) → PlacesIn (rail_places_of w mainY cluster)
unfolding rail_places_of
rail_places_in W mainY cluster =
    let half = div_in cluster f2 tt in
    let fx = coordinate (sub_in (sub_in W (lit 16) tt) half tt) tt in
    let fy = coordinate (add_in mainY half tt) tt in
    let shoulder = in_more (at 56) (at 64) (min_in (div_in (sub_in cluster (lit 8) tt) f2 tt) (lit 64)) tt tt in
    let inner = add_in (lit 16) cluster tt in
    let shoulderX = in_more (at 0) (at 128) (sub_in (sub_in inner (times_in f2 shoulder tt) tt) (lit 8) tt) tt tt in
    let shoulderY = sub_in mainY (lit 112) tt in
    let systemY = sub_in mainY (lit 56) tt in
    let systemX = in_more (at 48) (at 144) (sub_in inner (lit 80) tt) tt tt in
    let outer = sub_in W shoulderX tt in
    record {
      faces = well_faces_in fx fy cluster;
      l1 = placed_in shoulderX shoulderY shoulder (lit 48) tt;
      l2 = placed_in (add_in (add_in shoulderX shoulder tt) (lit 8) tt) shoulderY shoulder (lit 48) tt;
      r2 = placed_in (sub_in (sub_in outer (times_in f2 shoulder tt) tt) (lit 8) tt) shoulderY shoulder (lit 48) tt;
      r1 = placed_in (sub_in outer shoulder tt) shoulderY shoulder (lit 48) tt;
      select = placed_in systemX systemY (lit 80) (lit 48) tt;
      start = placed_in (sub_in (sub_in W systemX tt) (lit 80) tt) systemY (lit 80) (lit 48) tt;
      l3 = empty_in;
      r3 = empty_in;
    }

railed_in : {w h cluster : Float} → In w (at 0) (at 8192) → In h (at 0) (at 8192) → In cluster (at 122) (at 200) → Arranged (railed_of w h cluster)
unfolding railed_of
railed_in W H cluster =
    let mainY = in_more (minus 256) (at 8192) (sub_in (sub_in H (lit 4) tt) cluster tt) tt tt in
    finished_in_lem _ W H (dpad_in (controls_placed (λ r P. P) (arranged_in false W H) (rail_places_in W mainY cluster)) (placed_in (lit 16) mainY cluster cluster tt))

requested_in : {w h pictureHeight : Float} → In w (at 0) (at 8192) → In h (at 0) (at 8192) → In pictureHeight (at 0) (at 8192) → In (requested_of w h pictureHeight) (at 122) (at 200)
unfolding requested_of
requested_in W H picture =
    min_in (clamp_in (sub_in H (lit 168) tt) (lit 122) (lit 200)) (max_in (sub_in (div_in (sub_in W (div_in (mul_in picture f4 tt) f3 tt) tt) f2 tt) (lit 16) tt) (lit 160))

-- what the cutouts leave of the wells' width has no lower end but theirs
give_way_in : (w requested : Float) {h : Float} → In h (at 0) (at 8192) → (cluster : Float) (c : Rect) → In cluster (minus 30720) (at 200) → Element c
    → In (give_way_of w h requested cluster c) (minus 30720) (at 200)
unfolding give_way_of
give_way_in w requested {h} H cluster c i C =
    let y = h ⊖ k4 ⊖ requested in
    let met = overlaps_of (new_of k16 y requested requested) c || overlaps_of (new_of (w ⊖ k16 ⊖ requested) y requested requested) c in
    let free = sub_in (sub_in (sub_in (sub_in H (lit 4) tt) (most_in C.y tt) tt) (most_in C.h tt) tt) (lit 8) tt in
    in_more (minus 30720) (at 200) (cond_in met (min_in i free) i) tt tt

cluster_in : {w h pictureHeight : Float} (cutouts : List Rect) → In w (at 0) (at 8192) → In h (at 0) (at 8192) → In pictureHeight (at 0) (at 8192) → Each Element cutouts
    → In (cluster_of w h pictureHeight cutouts) (minus 30720) (at 200)
unfolding cluster_of
cluster_in {w} {h} {pictureHeight} cutouts W H picture C =
    let requested = requested_of w h pictureHeight in
    fold_ind (λ z. In z (minus 30720) (at 200)) Element (give_way_of w h requested) (give_way_in w requested H) cutouts requested (in_more (minus 30720) (at 200) (requested_in W H picture) tt tt) C

pub side_rails_in : {w h pictureHeight : Float} (cutouts : List Rect) → In w (at 0) (at 8192) → In h (at 0) (at 8192) → In pictureHeight (at 0) (at 8192) → Each Element cutouts
    → Arranged (side_rails_of w h pictureHeight cutouts)
unfolding side_rails_of
side_rails_in cutouts W H picture C =
    by_test Arranged (lt _ k122) (λ t. arranged_in false W H) (λ t. railed_in W H (not_below (cluster_in cutouts W H picture C) (lit 122) t))
