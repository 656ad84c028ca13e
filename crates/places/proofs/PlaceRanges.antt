-- Places in range: the faces about a centre, and a layout whose controls are put at such places.
use mathlib.Core.List.{List}
use Prim.Native.Nat.{ℕ}
use lib.Dec.{T, leb}
use lib.Ieee.{Float}
use Rattle.prelude.specs.Each.{Each, ◌&◌}
use Rattle.prelude.proofs.EachLaws.{each_map_first}
use Rattle.geometry.specs.declared.Rect.{Rect}
use Rattle.geometry.specs.Rect.{empty_rect}
use Rattle.layout.specs.declared.Label.{Label}
use Rattle.layout.specs.declared.Label.TheVariants.{Tri, O, X, Sq, L1, L2, R2, R1, Select, Start, L3, R3}
use Rattle.layout.specs.declared.Layout.{Layout}
use Rattle.numerics.specs.Rects.{OnScreen, margin}
use Rattle.numerics.specs.Range.{In, at, minus}
use Rattle.numerics.proofs.Ranges.{in_more, add_in, sub_in, div_in, encloses, in_wide, placed_in}
use Rattle.numerics.proofs.Literals.{lit, i4√2, f1√2, f2}
use Rattle.layout_ranges.specs.Bounded.{Every}
use Rattle.layout_ranges.proofs.Changes.{controls_in}
use Rattle.places.specs.declared.Faces.{Faces}
use Rattle.places.specs.declared.Places.{Places}
use Rattle.places.specs.Places.{place_faces_of, well_faces_of, at_of, controller_of, placed_control, placed_of}

-- a coordinate on the screen or a little off it
abbrev pub Coordinate : Float → Type 0
Coordinate x = In x (minus 512) (at 8448)

pub coordinate : {x : Float} {a b : ℕ} → In x a b → T (encloses (minus 512) (at 8448) a b) → Coordinate x
coordinate i t = in_wide i t

-- ---- faces
pub record FacesIn (f : Faces) : Type 0 where
  pub tri : OnScreen margin f.tri
  pub o : OnScreen margin f.o
  pub x : OnScreen margin f.x
  pub sq : OnScreen margin f.sq

-- how far the centres of the faces lie from the middle
abbrev pub step_in : {x : Float} {a b : ℕ} → In x a b → T (leb (at 0) a) → T (leb b (at 128)) → In x (at 0) (at 128)
step_in i s t = in_more (at 0) (at 128) i s t

pub faces_in : {fx fy across down cap : Float} → Coordinate fx → Coordinate fy → In across (at 0) (at 128) → In down (at 0) (at 128) → In cap (at 48) (at 84)
    → FacesIn (place_faces_of fx fy across down cap)
unfolding place_faces_of
faces_in fx fy across down cap =
    let half = div_in cap f2 tt in
    let x = sub_in fx half tt in
    let y = sub_in fy half tt in
    record {
      tri = placed_in x (sub_in (sub_in fy down tt) half tt) cap cap tt;
      o = placed_in (sub_in (add_in fx across tt) half tt) y cap cap tt;
      x = placed_in x (sub_in (add_in fy down tt) half tt) cap cap tt;
      sq = placed_in (sub_in (sub_in fx across tt) half tt) y cap cap tt;
    }

pub well_faces_in : {fx fy well : Float} → Coordinate fx → Coordinate fy → In well (at 122) (at 200) → FacesIn (well_faces_of fx fy well)
unfolding well_faces_of
well_faces_in fx fy well =
    let cap = in_more (at 48) (at 84) (div_in (sub_in well i4√2 tt) f1√2 tt) tt tt in
    let step = step_in (div_in (sub_in well cap tt) f2 tt) tt tt in
    faces_in fx fy step step cap

-- ---- places
pub record PlacesIn (p : Places) : Type 0 where
  pub faces : FacesIn p.faces
  pub l1 : OnScreen margin p.l1
  pub l2 : OnScreen margin p.l2
  pub r2 : OnScreen margin p.r2
  pub r1 : OnScreen margin p.r1
  pub select : OnScreen margin p.select
  pub start : OnScreen margin p.start
  pub l3 : OnScreen margin p.l3
  pub r3 : OnScreen margin p.r3

at_in : {p : Places} → PlacesIn p → (label : Label) → OnScreen margin (at_of p label)
unfolding at_of
at_in P Tri = P.faces.tri
at_in P O = P.faces.o
at_in P X = P.faces.x
at_in P Sq = P.faces.sq
at_in P L1 = P.l1
at_in P L2 = P.l2
at_in P R2 = P.r2
at_in P R1 = P.r1
at_in P Select = P.select
at_in P Start = P.start
at_in P L3 = P.l3
at_in P R3 = P.r3

pub empty_in : OnScreen margin empty_rect
empty_in = placed_in (lit 0) (lit 0) (lit 0) (lit 0) tt

pub controller_in : {p : Places} {dpad : Rect} (count : ℕ) (sticks : List Rect) (stickcount : ℕ) → PlacesIn p → OnScreen margin dpad → Each (OnScreen margin) sticks
    → Every (OnScreen margin) (OnScreen margin) (controller_of p dpad count sticks stickcount)
unfolding controller_of
controller_in count sticks stickcount P dpad S =
    let a = at_in P in
    record {
      dpad = dpad;
      controls = a Tri & a O & a X & a Sq & a L1 & a L2 & a R2 & a R1 & a Select & a Start & a L3 & a R3 & tt;
      pause = empty_in;
      playback = empty_in;
      speed = empty_in;
      mute = empty_in;
      sticks = S;
    }

-- what holds at the place of every label
pub every_placed : {C D : Rect → Type 0} {l : Layout} (p : Places) → Every C D l → ((label : Label) → C (at_of p label)) → Every C D (placed_of l p)
unfolding placed_of
every_placed {C} {l = l} p L P = controls_in L (each_map_first (λ c. C c.bounds) (λ c. C c.bounds) (placed_control p) (λ c e. P c.label) (λ c e. e) l.count l.controls L.controls)

pub controls_placed : {C D : Rect → Type 0} {l : Layout} {p : Places} → ((r : Rect) → OnScreen margin r → C r) → Every C D l → PlacesIn p → Every C D (placed_of l p)
controls_placed {p = p} f L P = every_placed p L (λ label. f (at_of p label) (at_in P label))
