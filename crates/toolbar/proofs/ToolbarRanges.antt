-- The toolbar's keys are in range: `anchor_toolbar` keeps a layout in range.
use mathlib.Core.Path.{◌≡◌, refl}
use mathlib.Core.Bool.{Bool, true, false, cond, not, ◌&&◌}
use mathlib.Core.List.{List, [], ◌∷◌, map}
use Prim.Native.Nat.{ℕ, zero, suc, ◌+◌, ◌≤◌}
use lib.Dec.{T}
use lib.Ieee.{Float, lt, le, of_bits}
use lib.Ieee.Fits.{and_l}
use lib.ListN.{length}
use Rattle.prelude.proofs.Booleans.{either, by_test, and_three, all_four}
use Rattle.std.specs.Prelude.{unwrap_or}
use Rattle.std.specs.List.{find, list_any}
use Rattle.std.specs.Option.{option_map}
use Rattle.prelude.specs.Each.{Each, ◌&◌}
use Rattle.prelude.proofs.EachLaws.{each_take, each_append}
use Rattle.float.specs.Float.{◌⊕◌, ◌⊖◌, ◌⊘◌, k0, k0_01, k2, k8, k320}
use Rattle.geometry.specs.declared.Rect.{Rect}
use Rattle.geometry.specs.Rect.{overlaps_of}
use Rattle.layout.specs.declared.Layout.{Layout}
use Rattle.layout.specs.Layout.{element_of, stick_list, bounds_of}
use Rattle.layout.specs.Elements.{controller_elements_of}
use Rattle.layout.proofs.ElementLaws.{controller_elements_lem}
use Rattle.numerics.specs.Rects.{Element, Area, Key, margin}
use Rattle.numerics.specs.Range.{In, at, minus}
use Rattle.numerics.proofs.Bounds.{lt_law}
use Rattle.numerics.proofs.Ranges.{in_reach, in_more, most_in, add_in, sub_in, sub_back, times_in, mul_in, div_in, min_in, max_in, clamp_in, cond_in, neg_in, raise, moved_in, placed_in}
use Rattle.numerics.proofs.Products.{product_most}
use Rattle.numerics.proofs.Literals.{lit, i0_01, i1_4, f0_01, f0_055, f2, f3, f4}
use Rattle.layout_ranges.specs.Bounded.{Every, Bounded}
use Rattle.toolbar.specs.Toolbar.{candidate_of, room_of, below_of, moved_bar, pass, pair_of, avoided_of, anchor_toolbar_of, reusable_top_of}
use Rattle.layout_ranges.proofs.Changes.{bounds_in}

-- what is found holds
module _ {A B : Type 0} (C : B → Type 0) (D : A → Type 0) (p : A → Bool) (hit : A → B) (none : B) (found : (x : A) → D x → T (p x) → C (hit x)) (otherwise : C none) where
  find_ind : (xs : List A) → Each D xs → C (unwrap_or (option_map hit (find p xs)) none)
  find_ind [] e = otherwise
  find_ind (x ∷ xs) e = by_test (λ o. C (unwrap_or (option_map hit o) none)) (p x) (found x e.0) (λ t. find_ind xs e.1)

-- ---- the bar of a pair of keys
record BarIn (bar : Rect) : Type 0 where
  pub x : In bar.x (minus 128) (at 8320)
  pub y : In bar.y (minus 8193) (at 8193)
  pub w : In bar.w (minus 64) (at 128)
  pub h : In bar.h (at 0) (at 18)

module _ (left : Bool) {w h : Float} (W : In w (at 0) (at 8192)) (H : In h (at 0) (at 8192)) (obstacles : List Rect) where
  -- it is at least 0 and ends within the screen
  candidate_in : (bar c : Rect) → BarIn bar → Element c → T (room_of (candidate_of bar left c) left w) → BarIn (candidate_of bar left c)
  unfolding candidate_of room_of
  candidate_in bar c B E t =
      let x = most_in E.x tt in
      let s : Float = cond left (c.x ⊕ c.w ⊕ k8) (c.x ⊖ bar.w ⊖ k8) in
      let r = and_three (le k0 s) (le (s ⊕ bar.w) w) (cond left (le (s ⊕ bar.w) (w ⊘ k2)) (le (w ⊘ k2) s)) t in
      let shifted = in_reach (cond_in left (add_in (add_in x (most_in E.w tt) tt) (lit 8) tt) (sub_in (sub_in x B.w tt) (lit 8) tt)) in
      record { x = in_more (minus 128) (at 8320) (moved_in shifted B.w W tt tt r.0 r.1) tt tt; y = B.y; w = B.w; h = B.h }

  -- the bar overlaps c, and so the lower edge of c is no higher than the bar
  below_in : (bar c : Rect) → BarIn bar → Element c → T (overlaps_of bar c) → BarIn (below_of bar h c)
  unfolding below_of overlaps_of
  below_in bar c B E t =
      let over = (all_four (lt bar.x (c.x ⊕ c.w ⊖ k0_01)) (lt (c.x ⊕ k0_01) (bar.x ⊕ bar.w)) (lt bar.y (c.y ⊕ c.h ⊖ k0_01)) (lt (c.y ⊕ k0_01) (bar.y ⊕ bar.h)) t).2 in
      let bottom = add_in (most_in E.y tt) (most_in E.h tt) tt in
      let less = sub_in bottom i0_01 tt in
      let lower = sub_back (minus 8193) bottom i0_01 (raise less B.y (lt_law 1 bar.y (c.y ⊕ c.h ⊖ k0_01) B.y.whole less.whole over)) tt tt in
      record { x = B.x; y = in_more (minus 8193) (at 8193) (min_in (add_in lower (lit 8) tt) (max_in (sub_in H B.h tt) (lit 0))) tt tt; w = B.w; h = B.h }

  moved_bar_lem : (bar c : Rect) → BarIn bar → Element c → T (overlaps_of bar c) → BarIn (moved_bar left w h obstacles bar c)
  unfolding moved_bar
  moved_bar_lem bar c B E t =
      let r : Bool = room_of (candidate_of bar left c) left w in
      let f : Bool = not (list_any (overlaps_of (candidate_of bar left c)) obstacles) in
      by_test BarIn (r && f) (λ s. candidate_in bar c B E (and_l r f s)) (λ s. below_in bar c B E t)

  pass_in : Each Element obstacles → (turns : ℕ) (bar : Rect) → BarIn bar → BarIn (pass left w h obstacles turns bar)
  unfolding pass
  pass_in O zero bar B = B
  pass_in O (suc turns) bar B =
      find_ind BarIn Element (overlaps_of bar) (λ c. pass left w h obstacles turns (moved_bar left w h obstacles bar c)) bar
      (λ c E t. pass_in O turns (moved_bar left w h obstacles bar c) (moved_bar_lem bar c B E t)) B obstacles O

-- ---- the obstacles
module _ (l : Layout) (covered : Float) (cutouts : List Rect) where
  pub avoided_in : l.count ≤ length l.controls → l.stickcount ≤ length l.sticks → Bounded l → Each Element cutouts → Each Element (avoided_of l covered cutouts)
  unfolding avoided_of
  avoided_in cs ss L O = either (Each Element) (lt k0 covered) (each_append Element cutouts (map (element_of l) (controller_elements_of l)) O controls) O
    where
      controls : Each Element (map (element_of l) (controller_elements_of l))
      controls =
          rw (controller_elements_lem l cs ss)
          (L.dpad & each_append Element (bounds_of l) (stick_list l) (bounds_in l L) (each_take Element l.stickcount l.sticks L.sticks))

-- where no decoration shows, only the cutouts
pub nothing_covered : (l : Layout) (cutouts : List Rect) → avoided_of l k0 cutouts ≡ cutouts
unfolding avoided_of lt of_bits
nothing_covered l cutouts = refl

-- ---- the keys
pub anchor_in : {C D : Rect → Type 0} (l : Layout) {w h reusable covered : Float} (cutouts : List Rect)
    → In w (at 0) (at 8192) → In h (at 0) (at 8192) → In reusable (at 0) (at 8192) → In covered (minus 8192) (at 8192) → Each Element (avoided_of l covered cutouts)
    → Every C D l → Every C (Key margin) (anchor_toolbar_of l w h reusable covered cutouts)
unfolding anchor_toolbar_of pair_of
anchor_in l {w} {covered = covered} cutouts W H R C O L =
    let obstacles = avoided_of l covered cutouts in
    let padding = min_in (lit 28) (mul_in W f0_055 tt) in
    let gap = min_in (lit 8) (mul_in W f0_01 tt) in
    let share = max_in (div_in (sub_in (sub_in W (times_in f2 padding tt) tt) (times_in f3 gap tt) tt) f4 tt) (lit 1) in
    let size = min_in (min_in (min_in (lit 40) share) H) W in
    let height = min_in size (lit 18) in
    let time = most_in (product_most 14360 (in_reach size) (in_reach (cond_in (le k320 w) i1_4 (lit 1))) tt tt) tt in
    let up = neg_in R tt in
    let top = in_more (minus 8193) (at 8193) (clamp_in (add_in up C tt) up (max_in (sub_in H height tt) (lit 0))) tt tt in
    let right = sub_in (sub_in (sub_in (sub_in W padding tt) size tt) size tt) gap tt in
    let a = pass_in true W H obstacles O (length obstacles + 1) _
    (record { x = in_more (minus 128) (at 8320) padding tt tt; y = top; w = in_more (minus 64) (at 128) (add_in (add_in size gap tt) time tt) tt tt; h = height }) in
    let b = pass_in false W H obstacles O (length obstacles + 1) _
    (record { x = in_more (minus 128) (at 8320) right tt tt; y = top; w = in_more (minus 64) (at 128) (add_in (times_in f2 size tt) gap tt) tt tt; h = height }) in
    record {
      dpad = L.dpad;
      controls = L.controls;
      playback = placed_in a.x a.y size height tt;
      speed = placed_in (add_in (add_in a.x size tt) gap tt) a.y time height tt;
      mute = placed_in b.x b.y size height tt;
      pause = placed_in (add_in (add_in b.x size tt) gap tt) b.y size height tt;
      sticks = L.sticks;
    }

-- where no decoration shows
pub anchored_in : {C D : Rect → Type 0} (l : Layout) {w h reusable : Float} (cutouts : List Rect) → In w (at 0) (at 8192) → In h (at 0) (at 8192) → In reusable (at 0) (at 8192) → Each Element cutouts
    → Every C D l → Every C (Key margin) (anchor_toolbar_of l w h reusable k0 cutouts)
anchored_in l cutouts W H R O L = anchor_in l cutouts W H R (in_more (minus 8192) (at 8192) (lit 0) tt tt) (rw nothing_covered O) L

pub reusable_in : {picture : Rect} → Area picture → In (reusable_top_of picture) (at 0) (at 8192)
reusable_in A = max_in (neg_in (most_in A.y tt) tt) (lit 0)
