-- `Control` and `Layout` of input.rs: made, changed, and the elements by index.
use Rattle.std.specs.Prelude.{cond, List, ◌∷◌, ◌++◌, map, ℕ, ◌+◌, ◌-◌, ◌≤◌, leb, eqb, get_or, replicate, set, take}
use Rattle.std.specs.Float.{nan}
use Rattle.geometry.specs.declared.Rect.{Rect}
use Rattle.geometry.specs.Rect.{new_of, empty_rect}
use Rattle.layout.specs.declared.Label.{Label}
use Rattle.layout.specs.declared.Label.TheVariants.{Tri}
use Rattle.layout.specs.declared.Control.{Control}
use Rattle.layout.specs.declared.Cutouts.{Cutouts}
use Rattle.layout.specs.declared.Elements.{Elements}
use Rattle.layout.specs.declared.Layout.{Layout}

abbrev pub control : Rect → Label → Control
control bounds label = record { bounds = bounds; label = label }

abbrev pub with_bounds : Control → Rect → Control
with_bounds c r = record { bounds = r; label = c.label }

-- what an array of rectangles or of controls gives past its end
abbrev pub any_rect : Rect
any_rect = new_of nan nan nan nan

abbrev pub any_control : Control
any_control = control any_rect Tri

-- no more controls and sticks in use than the arrays have places
abbrev pub Few : Layout → Type 0
Few l = (l.count ≤ 12) × (l.stickcount ≤ 2)

-- the lists that the Rust has, without the unused places of the arrays
abbrev pub control_list : Layout → List Control
control_list l = take l.count l.controls

abbrev pub stick_list : Layout → List Rect
stick_list l = take l.stickcount l.sticks

-- the lists that an array and its count stand for
abbrev pub element_list : Elements → List Rect
element_list e = take e.count e.at

abbrev pub cutout_list : Cutouts → List Rect
cutout_list c = take c.count c.at

-- ---- a layout with other parts: only the next four name all fields

-- all rectangles empty, without controls and sticks
abbrev pub empty_layout : Layout
empty_layout =
    record {
      game = empty_rect;
      dpad = empty_rect;
      controls = replicate 12 (control empty_rect Tri);
      count = 0;
      pause = empty_rect;
      playback = empty_rect;
      speed = empty_rect;
      mute = empty_rect;
      sticks = replicate 2 empty_rect;
      stickcount = 0;
    }

abbrev pub with_game : Layout → Rect → Layout
with_game l r =
    record {
      game = r;
      dpad = l.dpad;
      controls = l.controls;
      count = l.count;
      pause = l.pause;
      playback = l.playback;
      speed = l.speed;
      mute = l.mute;
      sticks = l.sticks;
      stickcount = l.stickcount;
    }

-- other keys in the toolbar
abbrev pub with_toolbar : Layout → Rect → Rect → Rect → Rect → Layout
with_toolbar l playback speed mute pause =
    record {
      game = l.game;
      dpad = l.dpad;
      controls = l.controls;
      count = l.count;
      pause = pause;
      playback = playback;
      speed = speed;
      mute = mute;
      sticks = l.sticks;
      stickcount = l.stickcount;
    }

-- another controller: d-pad, controls, sticks
abbrev pub with_controller : Layout → Rect → List Control → ℕ → List Rect → ℕ → Layout
with_controller l dpad controls count sticks stickcount =
    record {
      game = l.game;
      dpad = dpad;
      controls = controls;
      count = count;
      pause = l.pause;
      playback = l.playback;
      speed = l.speed;
      mute = l.mute;
      sticks = sticks;
      stickcount = stickcount;
    }

abbrev pub with_dpad : Layout → Rect → Layout
with_dpad l r = with_controller l r l.controls l.count l.sticks l.stickcount

abbrev pub with_controls : Layout → List Control → Layout
with_controls l cs = with_controller l l.dpad cs l.count l.sticks l.stickcount

abbrev pub with_sticks : Layout → List Rect → Layout
with_sticks l rs = with_controller l l.dpad l.controls l.count rs l.stickcount

abbrev pub with_pause : Layout → Rect → Layout
with_pause l r = with_toolbar l l.playback l.speed l.mute r

abbrev pub with_playback : Layout → Rect → Layout
with_playback l r = with_toolbar l r l.speed l.mute l.pause

abbrev pub with_speed : Layout → Rect → Layout
with_speed l r = with_toolbar l l.playback r l.mute l.pause

abbrev pub with_mute : Layout → Rect → Layout
with_mute l r = with_toolbar l l.playback l.speed r l.pause

-- ---- the elements by index

abbrev pub element_count_of : Layout → ℕ
element_count_of l = l.count + 5 + l.stickcount

-- the element at an index: the d-pad, the controls, the four keys of the toolbar, the sticks
unfoldable pub element_of : Layout → ℕ → Rect
element_of l index =
    let n = l.count in
    cond (eqb index 0) l.dpad
    (cond (leb index n) (get_or l.controls (index - 1) any_control).bounds
    (cond (eqb index (n + 1)) l.pause
    (cond (eqb index (n + 2)) l.playback
    (cond (eqb index (n + 3)) l.speed
    (cond (eqb index (n + 4)) l.mute
    (get_or l.sticks (index - n - 5) any_rect))))))

-- the layout with another rectangle for its element at an index
unfoldable pub set_element_of : Layout → ℕ → Rect → Layout
set_element_of l index rect =
    let n = l.count in
    cond (eqb index 0) (with_dpad l rect)
    (cond (leb index n) (with_controls l (set l.controls (index - 1) (with_bounds (get_or l.controls (index - 1) any_control) rect)))
    (cond (eqb index (n + 1)) (with_pause l rect)
    (cond (eqb index (n + 2)) (with_playback l rect)
    (cond (eqb index (n + 3)) (with_speed l rect)
    (cond (eqb index (n + 4)) (with_mute l rect)
    (with_sticks l (set l.sticks (index - n - 5) rect)))))))

-- the controls' rectangles
abbrev pub bounds_of : Layout → List Rect
bounds_of l = map (λ c. c.bounds) (control_list l)

-- all elements, in the order of their indices
unfoldable pub elements_of : Layout → List Rect
elements_of l = l.dpad ∷ (bounds_of l ++ (l.pause ∷ l.playback ∷ l.speed ∷ l.mute ∷ stick_list l))
