-- `Layout::fit_landscape_controls` of input.rs. On a wide screen the keys beside the sticks can make both rails wider than need be: a row
-- at the bottom is tried for them, which makes no thumb's target smaller.
use Rattle.std.specs.Prelude.{Bool, false, cond, ◌||◌, List, ℕ, eqb, ltb, Float, get_or, set}
use Rattle.std.specs.Float.Ieee.{lt, le}
use Rattle.prelude.specs.Lists.{map_first}
use Rattle.float.specs.Float.{◌⊕◌, ◌⊖◌, ◌⊗◌, ◌⊘◌, k0_01, k1, k1_35, k2, k4, k8, k16, k24, k48, k64, k72, k104, k120, k122}
use Rattle.geometry.specs.declared.Rect.{Rect}
use Rattle.geometry.specs.Rect.{new_of, shifted_of}
use Rattle.geometry.specs.Offset.{centred}
use Rattle.layout.specs.declared.Control.{Control}
use Rattle.layout.specs.declared.Label.{Label}
use Rattle.layout.specs.declared.Label.TheVariants.{Tri, O, X, Sq, L1, L2, R2, R1, Select, Start, L3, R3}
use Rattle.layout.specs.declared.Layout.{Layout}
use Rattle.layout.specs.Actions.{action_bounds_of}
use Rattle.layout.specs.Layout.{any_rect, with_bounds, with_dpad, with_controls, with_sticks}
use Rattle.search.specs.Search.{place_game_in_aspect_of}
use Rattle.toolbar.specs.Toolbar.{toolbar_height}
use Rattle.landscape.specs.declared.KeyRow.{KeyRow}

-- the sizes of the digital wells, the sticks and the shoulders, and where they and the row lie, from the bottom up
unfoldable pub measure_key_row_of : Float → Float → Float → Float → KeyRow
measure_key_row_of w h face stick =
    let rowY = h ⊖ k4 ⊖ k48 in
    let stickY = rowY ⊖ k8 ⊖ stick in
    let faceY = stickY ⊖ k8 ⊖ face in
    record { w = w; face = face; stick = stick; shoulder = (face ⊖ k8) ⊘ k2; row_y = rowY; stick_y = stickY; face_y = faceY; shoulder_y = faceY ⊖ k8 ⊖ k48 }

-- the shoulders would reach into the toolbar, or a thumb's target is small already
unfoldable pub tight_of : KeyRow → Bool
tight_of r = lt r.shoulder_y toolbar_height || (lt r.face k122 || lt r.stick k104)

-- the place of a control by its label: the faces go by dx and dy
unfoldable pub place_in_row_of : KeyRow → Float → Float → Rect → Label → Rect
place_in_row_of r dx dy bounds Tri = shifted_of bounds dx dy
place_in_row_of r dx dy bounds O = shifted_of bounds dx dy
place_in_row_of r dx dy bounds X = shifted_of bounds dx dy
place_in_row_of r dx dy bounds Sq = shifted_of bounds dx dy
place_in_row_of r dx dy bounds L1 = new_of k16 r.shoulder_y r.shoulder k48
place_in_row_of r dx dy bounds L2 = new_of (k24 ⊕ r.shoulder) r.shoulder_y r.shoulder k48
place_in_row_of r dx dy bounds R2 = new_of (r.w ⊖ k24 ⊖ k2 ⊗ r.shoulder) r.shoulder_y r.shoulder k48
place_in_row_of r dx dy bounds R1 = new_of (r.w ⊖ k16 ⊖ r.shoulder) r.shoulder_y r.shoulder k48
place_in_row_of r dx dy bounds Select = new_of k72 r.row_y k48 k48
place_in_row_of r dx dy bounds Start = new_of (r.w ⊖ k120) r.row_y k48 k48
place_in_row_of r dx dy bounds L3 = new_of k16 r.row_y k48 k48
place_in_row_of r dx dy bounds R3 = new_of (r.w ⊖ k64) r.row_y k48 k48

abbrev pub in_row : KeyRow → Float → Float → Control → Control
in_row r dx dy c = with_bounds c (place_in_row_of r dx dy c.bounds c.label)

-- the sticks above the row, the right one if there are two
unfoldable pub row_sticks_of : List Rect → ℕ → KeyRow → List Rect
row_sticks_of sticks count r =
    let left = set sticks 0 (new_of k16 r.stick_y r.stick r.stick) in
    cond (ltb 1 count) (set left 1 (new_of (r.w ⊖ k16 ⊖ r.stick) r.stick_y r.stick r.stick)) left

-- the layout with the row: the faces keep their diamond, in the right well
unfoldable pub with_key_row_of : Layout → KeyRow → Layout
with_key_row_of l r =
    let actions = action_bounds_of l in
    let dx = r.w ⊖ k16 ⊖ r.face ⊖ actions.x in
    let dy = r.face_y ⊖ actions.y in
    let controls = map_first (in_row r dx dy) l.count l.controls in
    with_sticks (with_controls (with_dpad l (new_of k16 r.face_y r.face r.face)) controls) (row_sticks_of l.sticks l.stickcount r)

abbrev pub key_row_of : Layout → Float → Float → KeyRow
key_row_of l w h = measure_key_row_of w h l.dpad.w (get_or l.sticks 0 any_rect).w

-- with the row, and the largest game that is clear of all elements
abbrev pub with_row_and_game_of : Layout → Float → Float → Rect → Float → Layout
with_row_and_game_of l w h picture aspect = place_game_in_aspect_of (with_key_row_of l (key_row_of l w h)) picture false k1 centred aspect

-- The Rust changes the layout and, unless its game is then wider by more than 0.01, puts the elements and the game back: that is the
-- layout from before.
unfoldable pub fit_landscape_controls_of : Layout → Float → Float → Rect → Float → Layout
fit_landscape_controls_of l w h picture aspect =
    let fitted = with_row_and_game_of l w h picture aspect in
    cond (le w (h ⊗ k1_35) || eqb l.stickcount 0) l
    (cond (tight_of (key_row_of l w h)) l
    (cond (le fitted.game.w (l.game.w ⊕ k0_01)) l fitted))
