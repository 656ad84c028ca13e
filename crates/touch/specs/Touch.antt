-- `mask_near` of input.rs: the mask of a touch, by the three sources of its bits.
use Rattle.std.specs.Prelude.{Bool, cond, not, ◌&&◌, ◌||◌, ℕ, ◌^◌, eqb, Float}
use mathlib.Core.List.{List, ◌∷◌, foldl}
use Rattle.std.specs.Int.Bits.{bit_and, bit_or}
use Rattle.std.specs.Float.{binary32}
use Rattle.std.specs.Float.Ieee.{of_bits, lt, le}
use Rattle.std.specs.List.{list_any}
use Rattle.prelude.specs.Lists.{filter_map}
use Rattle.float.specs.Float.{◌⊕◌, ◌⊖◌, ◌⊗◌, ◌⊘◌, k0, k0_09, k0_15, k1, k2, k6, k10, √2}
use Rattle.float.specs.MinMax.{min_of, abs_of}
use Rattle.geometry.specs.declared.Rect.{Rect}
use Rattle.geometry.specs.Rect.{new_of, contains_of}
use Rattle.hypot.specs.Hypot.{hypot_of}
use Rattle.layout.specs.declared.Control.{Control}
use Rattle.layout.specs.declared.Layout.{Layout}
use Rattle.layout.specs.Label.{mask_of, is_face_of}
use Rattle.layout.specs.Layout.{control_list}
use Rattle.touch.specs.declared.Face.{Face}

-- ---- the d-pad

-- the bit of one axis, by the side on which the touch lies, unless it lies over 67.5 degrees off that axis
unfoldable pub axis_bit_of : Float → Float → ℕ → ℕ → ℕ
axis_bit_of along across negative positive =
    -- tan(22.5 degrees)
    let diagonal = √2 ⊖ k1 in
    cond (le (abs_of across ⊗ diagonal) (abs_of along)) (cond (lt along k0) negative positive) 0

-- Eight broad sectors: a thumb dragged to a diagonal need not hit a corner.
unfoldable pub sector_of : Float → Float → ℕ
sector_of dx dy = bit_or (axis_bit_of dx dy (2 ^ 6) (2 ^ 7)) (axis_bit_of dy dx (2 ^ 4) (2 ^ 5))

-- The small centre is neutral.
unfoldable pub dpad_mask_of : Rect → Float → Float → ℕ
dpad_mask_of dpad x y =
    let dx = x ⊖ dpad.x ⊖ dpad.w ⊘ k2 in
    let dy = y ⊖ dpad.y ⊖ dpad.h ⊘ k2 in
    cond (contains_of dpad x y) (cond (lt (dpad.w ⊗ k0_09) (hypot_of dx dy)) (sector_of dx dy) 0) 0

-- ---- the controls that are no face buttons

unfoldable pub other_holds_of : Float → Float → Control → Bool
other_holds_of x y c = not (is_face_of c.label) && contains_of c.bounds x y

unfoldable pub add_other_of : Float → Float → ℕ → Control → ℕ
add_other_of x y mask c = cond (other_holds_of x y c) (bit_or mask (mask_of c.label)) mask

unfoldable pub others_mask_of : Float → Float → List Control → ℕ
others_mask_of x y controls = foldl (add_other_of x y) 0 controls

-- ---- the face buttons: one finger takes the nearest

-- what may take a touch from the margin of a face button, in the order in which it is asked
abbrev pub blockers_of : Layout → List Rect
blockers_of l =
    l.game
    ∷ l.dpad
    ∷ l.pause
    ∷ l.playback
    ∷ l.speed
    ∷ l.mute
    ∷ filter_map (λ c. not (is_face_of c.label)) (λ c. c.bounds) (control_list l)

-- The margin about a face button's box counts in unused control space only, so that it takes nothing from the picture, another
-- control or the toolbar.
unfoldable pub is_free_of : Layout → Float → Float → Bool
is_free_of l x y = not (list_any (λ r. contains_of r x y) (blockers_of l))

-- the box with its margin
unfoldable pub target_of : Rect → Rect
target_of r =
    let padding = min_of (min_of r.w r.h ⊗ k0_15) k10 in
    new_of (r.x ⊖ padding) (r.y ⊖ padding) (r.w ⊕ k2 ⊗ padding) (r.h ⊕ k2 ⊗ padding)

unfoldable pub reached_of : Rect → Float → Float → Bool → Bool
reached_of r x y free = contains_of r x y || (free && contains_of (target_of r) x y)

-- the distance from the button's centre, less 6 for a button that was held before
unfoldable pub distance_of : Rect → Float → Float → Bool → Float
distance_of r x y held = hypot_of (x ⊖ r.x ⊖ r.w ⊘ k2) (y ⊖ r.y ⊖ r.h ⊘ k2) ⊖ cond held k6 k0

-- one turn of the search: at the same distance the earlier button stays
unfoldable pub nearer_of : Float → Float → Bool → ℕ → Face → Control → Face
nearer_of x y free previous best c =
    let mask = mask_of c.label in
    let distance = distance_of c.bounds x y (not (eqb (bit_and previous mask) 0)) in
    cond (is_face_of c.label && (reached_of c.bounds x y free && lt distance best.closest))
    (record { mask = mask; closest = distance })
    best

-- no button, at an infinite distance
abbrev pub no_face : Face
no_face = record { mask = 0; closest = of_bits binary32 0x7f800000 }

unfoldable pub nearest : Float → Float → Bool → ℕ → List Control → Face
nearest x y free previous controls = foldl (nearer_of x y free previous) no_face controls

abbrev pub face_mask_of : Layout → Float → Float → ℕ → ℕ
face_mask_of l x y previous = (nearest x y (is_free_of l x y) previous (control_list l)).mask

-- ---- the mask

unfoldable pub mask_near_of : Layout → Float → Float → ℕ → ℕ
mask_near_of l x y previous = bit_or (bit_or (dpad_mask_of l.dpad x y) (others_mask_of x y (control_list l))) (face_mask_of l x y previous)
