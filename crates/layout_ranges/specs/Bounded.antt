-- Layouts whose numbers are in range.
use Rattle.prelude.specs.Each.{Each}
use Rattle.geometry.specs.declared.Rect.{Rect}
use Rattle.layout.specs.declared.Layout.{Layout}
use Rattle.numerics.specs.Value.{AtMost}
use Rattle.numerics.specs.Rects.{Element, max_game_corner, max_game_side, OnScreen, Key, margin, shrunk_margin}

-- C holds of the d-pad, the controls and the sticks, D of the toolbar's keys: of every rectangle but the game, and of the unused places of the arrays too
pub record Every (C D : Rect → Type 0) (l : Layout) : Type 0 where
  pub dpad : C l.dpad
  pub controls : Each (λ c. C c.bounds) l.controls
  pub pause : D l.pause
  pub playback : D l.playback
  pub speed : D l.speed
  pub mute : D l.mute
  pub sticks : Each C l.sticks

abbrev pub Bounded : Layout → Type 0
Bounded l = Every Element Element l

-- a layout as arrangements make it
abbrev pub Arranged : Layout → Type 0
Arranged l = Every (OnScreen margin) (Key margin) l

-- the same, scaled down or not
abbrev pub Shrunk : Layout → Type 0
Shrunk l = Every (OnScreen shrunk_margin) (Key shrunk_margin) l

-- a game
pub record BoundedGame (g : Rect) : Type 0 where
  pub x : AtMost g.x max_game_corner
  pub y : AtMost g.y max_game_corner
  pub w : AtMost g.w max_game_side
  pub h : AtMost g.h max_game_side
