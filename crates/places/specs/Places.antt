-- A place for each label, and the controls of a layout put there: the loops over `layout.controls` of input.rs.
use Rattle.std.specs.Prelude.{List, [], ◌∷◌, map, ℕ, Float, replicate}
use Rattle.prelude.specs.Lists.{map_first}
use Rattle.float.specs.Float.{◌⊕◌, ◌⊖◌, ◌⊗◌, ◌⊘◌, k1, k2, k4, √2}
use Rattle.geometry.specs.declared.Rect.{Rect}
use Rattle.geometry.specs.Rect.{new_of, empty_rect}
use Rattle.layout.specs.declared.Control.{Control}
use Rattle.layout.specs.declared.Label.{Label}
use Rattle.layout.specs.declared.Label.TheVariants.{Tri, O, X, Sq, L1, L2, R2, R1, Select, Start, L3, R3}
use Rattle.layout.specs.declared.Layout.{Layout}
use Rattle.layout.specs.Labels.{analog_labels}
use Rattle.layout.specs.Layout.{control, empty_layout, with_controller, with_controls}
use Rattle.places.specs.declared.Faces.{Faces}
use Rattle.places.specs.declared.Places.{Places}

-- The size of the four caps in a square well: the centres of neighbours are √2 steps apart, and four points lie between the caps.
abbrev pub cap_of : Float → Float
cap_of well = (well ⊖ k4 ⊗ √2) ⊘ (k1 ⊕ √2)

-- the four face caps about a centre
unfoldable pub place_faces_of : Float → Float → Float → Float → Float → Faces
place_faces_of fx fy across down cap =
    record {
      tri = new_of (fx ⊖ cap ⊘ k2) (fy ⊖ down ⊖ cap ⊘ k2) cap cap;
      o = new_of (fx ⊕ across ⊖ cap ⊘ k2) (fy ⊖ cap ⊘ k2) cap cap;
      x = new_of (fx ⊖ cap ⊘ k2) (fy ⊕ down ⊖ cap ⊘ k2) cap cap;
      sq = new_of (fx ⊖ across ⊖ cap ⊘ k2) (fy ⊖ cap ⊘ k2) cap cap;
    }

-- those about the centre of a square well
unfoldable pub well_faces_of : Float → Float → Float → Faces
well_faces_of fx fy well =
    let cap = cap_of well in
    let step = (well ⊖ cap) ⊘ k2 in
    place_faces_of fx fy step step cap

unfoldable pub at_of : Places → Label → Rect
at_of p Tri = p.faces.tri
at_of p O = p.faces.o
at_of p X = p.faces.x
at_of p Sq = p.faces.sq
at_of p L1 = p.l1
at_of p L2 = p.l2
at_of p R2 = p.r2
at_of p R1 = p.r1
at_of p Select = p.select
at_of p Start = p.start
at_of p L3 = p.l3
at_of p R3 = p.r3

abbrev pub control_at_of : Places → Label → Control
control_at_of p label = control (at_of p label) label

-- the controls of all labels
abbrev pub controls_at_of : Places → List Control
controls_at_of p = map (control_at_of p) analog_labels

-- a layout without toolbar and game: the controls of the first `count` labels at their places, a d-pad, sticks
unfoldable pub controller_of : Places → Rect → ℕ → List Rect → ℕ → Layout
controller_of p dpad count sticks stickcount = with_controller empty_layout dpad (controls_at_of p) count sticks stickcount

-- one with the standard labels, and one with all labels and two sticks
abbrev pub standard_controller_of : Places → Rect → Layout
standard_controller_of p dpad = controller_of p dpad 10 (replicate 2 empty_rect) 0

abbrev pub analog_controller_of : Places → Rect → Rect → Rect → Layout
analog_controller_of p dpad left right = controller_of p dpad 12 (left ∷ right ∷ []) 2

-- a control at the place of its label
abbrev pub placed_control : Places → Control → Control
placed_control p c = control_at_of p c.label

-- the layout with each of its controls at the place of its label
unfoldable pub placed_of : Layout → Places → Layout
placed_of l p = with_controls l (map_first (placed_control p) l.count l.controls)
