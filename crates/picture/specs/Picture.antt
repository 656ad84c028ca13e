-- input/picture.rs: controls beside or below a picture that keeps its size.
use Rattle.std.specs.Prelude.{Bool, false, not, ◌&&◌, ◌||◌, cond, List, [], ◌∷◌, Float, Option, Some, None}
use Rattle.std.specs.Float.Ieee.{lt, neg}
use Rattle.prelude.specs.Lists.{find}
use Rattle.float.specs.Float.{◌⊕◌, ◌⊖◌, ◌⊗◌, ◌⊘◌, k0, k2, k3, k4, k6, k8, k12, k14, k24, k44, k50, k64, k68, k70, k76, k96, k112, k120, k124, k128, k136, k164, k240}
use Rattle.float.specs.MinMax.{min_of, max_of, clamp_of}
use Rattle.geometry.specs.declared.Rect.{Rect}
use Rattle.geometry.specs.Rect.{new_of}
use Rattle.layout.specs.declared.Layout.{Layout}
use Rattle.layout.specs.Layout.{with_dpad, with_sticks}
use Rattle.places.specs.declared.Faces.{Faces}
use Rattle.places.specs.declared.Places.{Places}
use Rattle.places.specs.Places.{cap_of, placed_of}
use Rattle.arranged.specs.Arranged.{arranged_of}
use Rattle.defaults.specs.Defaults.{analog_default_of, psp_of}
use Rattle.fits.specs.Fits.{fits_of}
use Rattle.picture.specs.declared.Row.{Row}
use Rattle.picture.specs.declared.Stack.{Stack}

abbrev pub gap : Float
gap = k8

abbrev pub key : Float
key = k44

-- four separate caps of 44 points with gaps between them
abbrev pub min_well : Float
min_well = k112

-- ---- `diamond` and `auxiliary`: between them they place the controls of every label

-- the four face caps in a square well
unfoldable pub diamond_of : Rect → Faces
diamond_of rect =
    let cap = cap_of rect.w in
    let step = (rect.w ⊖ cap) ⊘ k2 in
    let x = rect.x ⊕ (rect.w ⊖ cap) ⊘ k2 in
    let y = rect.y ⊕ (rect.h ⊖ cap) ⊘ k2 in
    record {
      tri = new_of (x ⊕ k0) (y ⊕ neg step) cap cap;
      o = new_of (x ⊕ step) (y ⊕ k0) cap cap;
      x = new_of (x ⊕ k0) (y ⊕ step) cap cap;
      sq = new_of (x ⊕ neg step) (y ⊕ k0) cap cap;
    }

-- the face caps as given, and in two columns the shoulders, the system and the stick keys
unfoldable pub auxiliary_of : Faces → Rect → Rect → Float → Float → Places
auxiliary_of faces left right shoulders system =
    let pair = clamp_of ((left.w ⊖ k12 ⊖ gap) ⊘ k2) key k64 in
    let edge = left.x ⊕ (left.w ⊖ k2 ⊗ pair ⊖ gap) ⊘ k2 in
    let right_edge = right.x ⊕ (right.w ⊖ k2 ⊗ pair ⊖ gap) ⊘ k2 in
    record {
      faces = faces;
      l1 = new_of edge shoulders pair key;
      l2 = new_of (edge ⊕ pair ⊕ gap) shoulders pair key;
      r2 = new_of right_edge shoulders pair key;
      r1 = new_of (right_edge ⊕ pair ⊕ gap) shoulders pair key;
      select = new_of (left.x ⊕ k6) system k64 key;
      start = new_of (right.x ⊕ right.w ⊖ k70) system k64 key;
      l3 = new_of (left.x ⊕ left.w ⊖ k50) system key key;
      r3 = new_of (right.x ⊕ k6) system key key;
    }

-- a layout with its controller's elements placed; of the two sticks it uses as many as it has
unfoldable pub arrange_of : Layout → Rect → Places → Rect → Rect → Layout
arrange_of l dpad places first second = with_sticks (with_dpad (placed_of l places) dpad) (first ∷ second ∷ [])

-- ---- `vertical`: a stack in each of two columns

-- a square in the middle of a column
abbrev pub square_of : Rect → Float → Float → Rect
square_of column y size = new_of (column.x ⊕ (column.w ⊖ size) ⊘ k2) y size size

-- the width and the lower edge that both columns have, the size of a stick, 0 without one, and of the wells
unfoldable pub measure_stack_of : Rect → Rect → Bool → Stack
measure_stack_of left right analog =
    let width = min_of left.w right.w in
    let top = max_of (max_of left.y right.y) k24 in
    let bottom = min_of (left.y ⊕ left.h) (right.y ⊕ right.h) ⊖ k14 in
    let stick = cond analog (min_of (clamp_of (width ⊖ k12) k96 k128) (bottom ⊖ top ⊖ k2 ⊗ key ⊖ k3 ⊗ gap ⊖ min_well)) k0 in
    let well = min_of (min_of (width ⊖ k12) k164) (bottom ⊖ top ⊖ k2 ⊗ key ⊖ k2 ⊗ gap ⊖ cond analog (stick ⊕ gap) k0) in
    record { width = width; bottom = bottom; stick = stick; well = well }

-- Document 01: "`vertical` gives none for a well below 112, a width below 124, or an analog stick below 96."
unfoldable pub cramped_of : Stack → Bool → Bool
cramped_of s analog = (analog && lt s.stick k96) || (lt s.well min_well || lt s.width k124)

unfoldable pub stacked_of : Layout → Rect → Rect → Bool → Stack → Layout
stacked_of l left right analog s =
    let system = s.bottom ⊖ key in
    let primary = system ⊖ gap ⊖ s.stick in
    let digital = cond analog (primary ⊖ gap ⊖ s.well) (system ⊖ gap ⊖ s.well) in
    let faces = diamond_of (square_of right digital s.well) in
    arrange_of l
    (square_of left digital s.well)
    (auxiliary_of faces left right (digital ⊖ gap ⊖ key) system)
    (square_of left primary s.stick)
    (square_of right primary s.stick)

unfoldable pub vertical_of : Layout → Rect → Rect → Bool → Option Layout
vertical_of base left right analog =
    let s = measure_stack_of left right analog in
    cond (cramped_of s analog) None (Some (stacked_of base left right analog s))

-- ---- `horizontal`: sticks and wells side by side in a band

unfoldable pub measure_row_of : Float → Rect → Bool → Bool → Row
measure_row_of w band analog psp =
    let columns = cond psp k3 (cond analog k4 k2) in
    let required = cond (analog && not psp) k240 k136 in
    let betweenWells = cond psp gap (cond analog (k2 ⊗ gap) k0) in
    let well = min_of (min_of ((w ⊖ k24 ⊖ betweenWells ⊖ k2 ⊗ gap ⊖ required) ⊘ columns) (band.h ⊖ key ⊖ k2 ⊗ gap ⊖ k12)) k164 in
    let top = band.y ⊕ (band.h ⊖ well ⊖ key ⊖ gap) ⊘ k2 in
    let digital = cond analog (k12 ⊕ well ⊕ gap) k12 in
    let rightDigital = cond psp k12 digital in
    record {
      well = well;
      required = required;
      top = top;
      y = top ⊕ key ⊕ gap;
      digital = digital;
      rightdigital = rightDigital;
      span = cond analog (k2 ⊗ well ⊕ gap) well;
      middleleft = digital ⊕ well ⊕ gap;
      middleright = w ⊖ rightDigital ⊖ well ⊖ gap;
    }

abbrev pub with_x : Rect → Float → Rect
with_x r x = new_of x r.y r.w r.h

-- System and stick keys lie between the two halves, never where a thumb goes from a stick to the well beside it.
abbrev pub center_keys_of : Places → Float → Places
center_keys_of p center =
    record {
      faces = p.faces;
      l1 = p.l1;
      l2 = p.l2;
      r2 = p.r2;
      r1 = p.r1;
      select = with_x p.select (center ⊖ k68);
      start = with_x p.start (center ⊕ k4);
      l3 = with_x p.l3 (center ⊖ k120);
      r3 = with_x p.r3 (center ⊕ k76);
    }

unfoldable pub row_places_of : Float → Row → Places
row_places_of w row =
    let well = row.well in
    let span = row.span in
    let faces = diamond_of (new_of (w ⊖ row.rightdigital ⊖ well) row.y well well) in
    center_keys_of
    (auxiliary_of faces (new_of k12 k0 span k0) (new_of (w ⊖ k12 ⊖ span) k0 span k0) row.top (row.y ⊕ well ⊖ key))
    ((row.middleleft ⊕ row.middleright) ⊘ k2)

unfoldable pub rowed_of : Layout → Float → Row → Layout
rowed_of l w row =
    let well = row.well in
    arrange_of l
    (new_of row.digital row.y well well)
    (row_places_of w row)
    (new_of k12 row.y well well)
    (new_of (w ⊖ k12 ⊖ well) row.y well well)

unfoldable pub horizontal_of : Layout → Float → Rect → Bool → Bool → Option Layout
horizontal_of base w band analog psp =
    let row = measure_row_of w band analog psp in
    cond (lt row.well min_well || lt (row.middleright ⊖ row.middleleft) row.required) None (Some (rowed_of base w row))

-- ---- `controls`

-- the layout whose controls are moved
unfoldable pub base_of : Float → Float → Bool → Bool → Layout
base_of w h analog psp = cond psp (psp_of w h) (cond analog (analog_default_of w h) (arranged_of w h false))

-- a layout that is there and fits
abbrev pub kept : (Layout → Bool) → Option Layout → Option Layout
kept fit None = None
kept fit (Some layout) = cond (fit layout) (Some layout) None

-- Rust's `flatten` of options
unfoldable pub flatten : List (Option Layout) → List Layout
flatten [] = []
flatten (None ∷ candidates) = flatten candidates
flatten (Some layout ∷ candidates) = layout ∷ flatten candidates

-- A row below the picture keeps the main thumb areas level; the stacks below it and beside it serve narrow surfaces. No
-- smaller picture, hidden control or tiny cap stands in: where nothing fits there is none.
unfoldable pub controls_of : Float → Float → Rect → Bool → Bool → List Rect → Option Layout
controls_of w h game analog psp holes =
    let base = base_of w h analog psp in
    let bottom = clamp_of (game.y ⊕ game.h) k0 h in
    let band = new_of k0 bottom w (h ⊖ bottom) in
    let left = new_of k0 k0 (clamp_of game.x k0 w) h in
    let rightX = clamp_of (game.x ⊕ game.w) k0 w in
    let right = new_of rightX k0 (w ⊖ rightX) h in
    let row = horizontal_of base w band analog psp in
    let below = vertical_of base (new_of k0 bottom (w ⊘ k2) band.h) (new_of (w ⊘ k2) bottom (w ⊘ k2) band.h) analog in
    let beside = vertical_of base left right analog in
    let candidates = row ∷ below ∷ beside ∷ [] in
    find (λ layout. fits_of layout w h game holes) Some None (flatten candidates)
