-- `fits` of input/picture.rs.
use Rattle.std.specs.Prelude.{Bool, true, false, not, ◌&&◌, ◌||◌, List, [], ◌∷◌, ◌++◌, map, Float}
use Rattle.std.specs.Float.Ieee.{le}
use Rattle.std.specs.List.{list_any, list_all}
use Rattle.float.specs.Float.{◌⊕◌, ◌⊖◌, ◌⊘◌, k0_01, k2, k3_99}
use Rattle.geometry.specs.declared.Rect.{Rect}
use Rattle.geometry.specs.Rect.{inside_of, overlaps_of}
use Rattle.hypot.specs.Hypot.{hypot_of}
use Rattle.layout.specs.declared.Control.{Control}
use Rattle.layout.specs.declared.Layout.{Layout}
use Rattle.layout.specs.Label.{is_face_of}
use Rattle.layout.specs.Layout.{control_list, stick_list}
use Rattle.fits.specs.declared.Input.{Input}

abbrev pub input : Rect → Bool → Input
input bounds face = record { bounds = bounds; face = face }

abbrev pub from_control : Control → Input
from_control c = input c.bounds (is_face_of c.label)

abbrev pub from_stick : Rect → Input
from_stick r = input r false

-- the controller's elements: the d-pad, the controls, the sticks
unfoldable pub inputs_of : Layout → List Input
inputs_of l = input l.dpad false ∷ (map from_control (control_list l) ++ map from_stick (stick_list l))

-- Document 01: "Two face caps may overlap as boxes if their centres are at least (a.w + b.w) / 2 + 3.99 apart." The caps
-- are circles, which stay apart where the corners of their boxes meet.
unfoldable pub separate_of : Input → Input → Bool
separate_of i j =
    let a = i.bounds in
    let b = j.bounds in
    not (overlaps_of a b)
    || (i.face
    && (j.face
    && le ((a.w ⊕ b.w) ⊘ k2 ⊕ k3_99) (hypot_of (a.x ⊕ a.w ⊘ k2 ⊖ b.x ⊖ b.w ⊘ k2) (a.y ⊕ a.h ⊘ k2 ⊖ b.y ⊖ b.h ⊘ k2))))

module _ (w h : Float) (game : Rect) (holes : List Rect) where
  -- on the screen to 0.01, and clear of the picture and of the holes
  unfoldable pub lies_clear_of : Rect → Bool
  lies_clear_of r = inside_of r (w ⊕ k0_01) (h ⊕ k0_01) && (not (overlaps_of r game) && not (list_any (overlaps_of r) holes))

  -- each input lies clear, and separate from those after it
  unfoldable pub all_fit : List Input → Bool
  all_fit [] = true
  all_fit (i ∷ later) = lies_clear_of i.bounds && (list_all (separate_of i) later && all_fit later)

unfoldable pub fits_of : Layout → Float → Float → Rect → List Rect → Bool
fits_of l w h game holes = all_fit w h game holes (inputs_of l)
