-- `anchor_toolbar` of input.rs.
use Rattle.std.specs.Prelude.{Bool, true, false, cond, not, ◌&&◌, ◌≡◌, List, ◌++◌, map, ℕ, zero, suc, ◌+◌, Float, length, unwrap_or}
use Rattle.std.specs.Float.Ieee.{lt, le, neg}
use Rattle.std.specs.List.{find, list_any}
use Rattle.std.specs.Option.{option_map}
use Rattle.float.specs.Float.{◌⊕◌, ◌⊖◌, ◌⊗◌, ◌⊘◌, k0, k0_01, k0_055, k1, k1_4, k2, k3, k4, k8, k18, k28, k40, k320}
use Rattle.float.specs.MinMax.{min_of, max_of, clamp_of}
use Rattle.geometry.specs.declared.Rect.{Rect}
use Rattle.geometry.specs.Rect.{new_of, overlaps_of}
use Rattle.layout.specs.declared.Layout.{Layout}
use Rattle.layout.specs.Layout.{element_of, with_toolbar}
use Rattle.layout.specs.Elements.{controller_elements_of}
use Rattle.toolbar.specs.declared.Bars.{Bars}

abbrev pub toolbar_height : Float
toolbar_height = k18

-- the bar moved past the obstacle c, away from its own edge of the screen
unfoldable pub candidate_of : Rect → Bool → Rect → Rect
candidate_of bar left c = new_of (cond left (c.x ⊕ c.w ⊕ k8) (c.x ⊖ bar.w ⊖ k8)) bar.y bar.w bar.h

-- a bar may move across as far as the middle of the screen
unfoldable pub room_of : Rect → Bool → Float → Bool
room_of bar left w =
    le k0 bar.x && (le (bar.x ⊕ bar.w) w && cond left (le (bar.x ⊕ bar.w) (w ⊘ k2)) (le (w ⊘ k2) bar.x))

-- the bar moved below the obstacle c, as far as the screen goes
unfoldable pub below_of : Rect → Float → Rect → Rect
below_of bar h c = new_of bar.x (min_of (c.y ⊕ c.h ⊕ k8) (max_of (h ⊖ bar.h) k0)) bar.w bar.h

module _ (left : Bool) (w h : Float) (obstacles : List Rect) where
  -- one turn of the pass, for the first obstacle that the bar overlaps
  unfoldable pub moved_bar : Rect → Rect → Rect
  moved_bar bar c =
      let candidate = candidate_of bar left c in
      cond (room_of candidate left w && not (list_any (overlaps_of candidate) obstacles)) candidate (below_of bar h c)

  -- so many turns of the pass, which ends as soon as the bar is free
  unfoldable pub pass : ℕ → Rect → Rect
  pass zero bar = bar
  pass (suc turns) bar = unwrap_or (option_map (λ c. pass turns (moved_bar bar c)) (find (overlaps_of bar) obstacles)) bar

-- where the bar of a pair of keys comes to lie
unfoldable pub pair_of : Rect → Bool → Float → Float → List Rect → Rect
pair_of bar left w h obstacles = pass left w h obstacles (length obstacles + 1) bar

-- A revealed status bar can push the toolbar into the controls, which stay where they are.
unfoldable pub avoided_of : Layout → Float → List Rect → List Rect
avoided_of l coveredTop cutouts = cond (lt k0 coveredTop) (cutouts ++ map (element_of l) (controller_elements_of l)) cutouts

-- where both bars come to lie from where they start
pub record BarsOf (obstacles : List Rect) (a b : Rect) (w h : Float) (r : Bars) : Type 0 where
  pub left : r.left ≡ pair_of a true w h obstacles
  pub right : r.right ≡ pair_of b false w h obstacles

-- Playback and speed lie at the left, mute and pause at the right. A clear camera margin above the screen is used only
-- while the system shows no decoration; a visible status bar pushes the keys down, and the game stays.
unfoldable pub anchor_toolbar_of : Layout → Float → Float → Float → Float → List Rect → Layout
anchor_toolbar_of l w h reusableTop coveredTop cutouts =
    let padding = min_of k28 (w ⊗ k0_055) in
    let gap = min_of k8 (w ⊗ k0_01) in
    let size = min_of (min_of (min_of k40 (max_of ((w ⊖ k2 ⊗ padding ⊖ k3 ⊗ gap) ⊘ k4) k1)) h) w in
    let height = min_of size toolbar_height in
    let timeWidth = size ⊗ cond (le k320 w) k1_4 k1 in
    let top = clamp_of (neg reusableTop ⊕ coveredTop) (neg reusableTop) (max_of (h ⊖ height) k0) in
    let obstacles = avoided_of l coveredTop cutouts in
    let right = w ⊖ padding ⊖ size in
    let a = pair_of (new_of padding top (size ⊕ gap ⊕ timeWidth) height) true w h obstacles in
    let b = pair_of (new_of (right ⊖ size ⊖ gap) top (k2 ⊗ size ⊕ gap) height) false w h obstacles in
    with_toolbar l
    (new_of a.x a.y size height)
    (new_of (a.x ⊕ size ⊕ gap) a.y timeWidth height)
    (new_of b.x b.y size height)
    (new_of (b.x ⊕ size ⊕ gap) b.y size height)

-- how far a picture reaches above the screen
abbrev pub reusable_top_of : Rect → Float
reusable_top_of picture = max_of (neg picture.y) k0
