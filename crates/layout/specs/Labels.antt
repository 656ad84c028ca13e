-- The labels of a layout's controls, its counts and the lengths of its arrays.
use Rattle.std.specs.Prelude.{◌≡◌, Bool, cond, List, [], ◌∷◌, ◌++◌, map, ℕ, ◌≤◌, ◌<◌, length}
use Rattle.layout.specs.declared.Label.{Label}
use Rattle.layout.specs.declared.Label.TheVariants.{Tri, O, X, Sq, L1, L2, R2, R1, Select, Start, L3, R3}
use Rattle.layout.specs.declared.Layout.{Layout}
use Rattle.layout.specs.Layout.{control_list}

-- in the order of the controls, which no step after a layout's making changes
abbrev pub labels_of : Layout → List Label
labels_of l = map (λ c. c.label) (control_list l)

-- the labels of the three kinds of layout
abbrev pub standard_labels : List Label
standard_labels = Tri ∷ O ∷ X ∷ Sq ∷ L1 ∷ L2 ∷ R2 ∷ R1 ∷ Select ∷ Start ∷ []

abbrev pub analog_labels : List Label
analog_labels = standard_labels ++ (L3 ∷ R3 ∷ [])

abbrev pub psp_labels : List Label
psp_labels = Tri ∷ O ∷ X ∷ Sq ∷ L1 ∷ R1 ∷ Select ∷ Start ∷ []

-- a layout of these labels, and of so many sticks
abbrev pub Inputs : List Label → ℕ → Layout → Type 0
Inputs labels sticks l = (labels_of l ≡ labels) × (l.count ≡ length labels) × (l.stickcount ≡ sticks)

-- arrays of 12 controls and 2 sticks
abbrev pub Arrays : Layout → Type 0
Arrays l = (length l.controls ≡ 12) × (length l.sticks ≡ 2)

-- these labels, so many sticks, and the arrays
abbrev pub Formed : List Label → ℕ → Layout → Type 0
Formed labels sticks l = Inputs labels sticks l × Arrays l

-- the arrays hold what is counted, and a stick
pub record Holds (l : Layout) : Type 0 where
  pub controls : l.count ≤ length l.controls
  pub sticks : l.stickcount ≤ length l.sticks
  pub stick : 0 < length l.sticks

-- what a mode has: controls with sticks or without, and of those what a psp has
abbrev pub mode_labels : Bool → Bool → List Label
mode_labels analog psp = cond psp psp_labels (cond analog analog_labels standard_labels)

abbrev pub mode_sticks : Bool → Bool → ℕ
mode_sticks analog psp = cond psp (cond analog 1 0) (cond analog 2 0)

abbrev pub OfMode : Bool → Bool → Layout → Type 0
OfMode analog psp l = Formed (mode_labels analog psp) (mode_sticks analog psp) l
