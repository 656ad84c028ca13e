-- Rectangles whose numbers are in range: finite ones, elements of a layout, elements as arrangements put them, and the area of a picture.
use Rattle.std.specs.Prelude.{ℕ, ◌+◌, ◌*◌, T}
use Rattle.std.specs.Float.Ieee.{le}
use Rattle.float.specs.Float.{k0}
use Rattle.geometry.specs.declared.Rect.{Rect}
use Rattle.numerics.specs.Value.{Whole, AtMost}
use Rattle.numerics.specs.Range.{In, at, minus}

-- finite numbers
pub record WholeRect (r : Rect) : Type 0 where
  pub x : Whole r.x
  pub y : Whole r.y
  pub w : Whole r.w
  pub h : Whole r.h

-- how far an element's corner may lie from zero, and how large its sides may be, of either sign
abbrev pub max_corner : ℕ
max_corner = 256 * 21875

abbrev pub max_side : ℕ
max_side = 256 * 8593

pub record Element (e : Rect) : Type 0 where
  pub x : AtMost e.x max_corner
  pub y : AtMost e.y max_corner
  pub w : AtMost e.w max_side
  pub h : AtMost e.h max_side

-- the same for a game: 16384 for the picture's corner and 3/4 of 8192 for the offset in it, and 8192, but for roundings
abbrev pub max_game_corner : ℕ
max_game_corner = 256 * 22561

abbrev pub max_game_side : ℕ
max_game_side = 256 * 8193

-- document 01's limits of tag 2
abbrev pub max_area : ℕ
max_area = 256 * 8192

pub record Area (b : Rect) : Type 0 where
  pub x : AtMost b.x max_area
  pub y : AtMost b.y max_area
  pub w : AtMost b.w max_area
  pub h : AtMost b.h max_area
  pub w0 : T (le k0 b.w)
  pub h0 : T (le k0 b.h)

-- An element as arrangements put it: on the screen or off it by m at most, at the top by `above` more, and its sides 8192 but for m / 256.
pub record Placed (above m : ℕ) (e : Rect) : Type 0 where
  pub x : In e.x (minus m) (at (8192 + m))
  pub y : In e.y (minus (above + m)) (at (8192 + m))
  pub w : AtMost e.w (max_area + m)
  pub h : AtMost e.h (max_area + m)

abbrev pub OnScreen : ℕ → Rect → Type 0
OnScreen m e = Placed 0 m e

-- a key of the toolbar, which may lie above the screen
abbrev pub Key : ℕ → Rect → Type 0
Key m e = Placed 8192 m e

-- how far off the screen an arrangement puts elements at most
abbrev pub margin : ℕ
margin = 768

-- and where a small surface shrinks them
abbrev pub shrunk_margin : ℕ
shrunk_margin = 1024
