-- Demand 3: what is required of a game, in exact arithmetic. The terms are those of document 01's paragraph "For the widest picture".
use Rattle.std.specs.Prelude.{◌≡◌, ◌⊎◌, List, Bool, not, ◌&&◌, ◌||◌, cond, ℕ, ◌^◌, ◌<◌, T, ℤ, pos, ◌+ℤ◌, ◌-ℤ◌, ◌*ℤ◌, Float}
use Rattle.std.specs.Int.Signed.{le_z, lt_z}
use Rattle.prelude.specs.Each.{Each}
use Rattle.geometry.specs.declared.Rect.{Rect}
use Rattle.layout.specs.declared.Layout.{Layout}
use Rattle.layout.specs.Layout.{elements_of}
use Rattle.numerics.specs.Rects.{WholeRect}
use Rattle.numerics.specs.Value.{value}
use Rattle.search.specs.Search.{centered_of, obstacles_of}

-- "any other rectangle is four whole numbers over one whole divisor": here in units of 2^-149. (X over d in layout units is X * 2^149 over d in these.)
pub record Exact : Type 0 where
  pub x : ℤ
  pub y : ℤ
  pub w : ℤ
  pub h : ℤ

-- "a finite f32 is a whole number of 2^-149", "comparisons are multiplied out": an f32 rectangle, beside rectangles over d
abbrev pub over : ℕ → Rect → Exact
over d r = record { x = value r.x *ℤ pos d; y = value r.y *ℤ pos d; w = value r.w *ℤ pos d; h = value r.h *ℤ pos d }

abbrev pub right_edge : Exact → ℤ
right_edge r = r.x +ℤ r.w

abbrev pub lower_edge : Exact → ℤ
lower_edge r = r.y +ℤ r.h

-- "each one's left edge x is less than the other's right edge x + w, and down likewise"
abbrev pub meets : Exact → Exact → Bool
meets r s = lt_z r.x (right_edge s) && (lt_z s.x (right_edge r) && (lt_z r.y (lower_edge s) && lt_z s.y (lower_edge r)))

-- "the lesser right edge less the greater left edge, and down likewise"
abbrev pub lesser : ℤ → ℤ → ℤ
lesser a b = cond (le_z a b) a b

abbrev pub greater : ℤ → ℤ → ℤ
greater a b = cond (le_z a b) b a

abbrev pub meet_across : Exact → Exact → ℤ
meet_across r s = lesser (right_edge r) (right_edge s) -ℤ greater r.x s.x

abbrev pub meet_down : Exact → Exact → ℤ
meet_down r s = lesser (lower_edge r) (lower_edge s) -ℤ greater r.y s.y

-- "no edge beyond the area's"
abbrev pub inside : Exact → Exact → Bool
inside r area = le_z area.x r.x && (le_z (right_edge r) (right_edge area) && (le_z area.y r.y && le_z (lower_edge r) (lower_edge area)))

-- twice x + w / 2
abbrev pub middle : Exact → ℤ
middle r = r.x +ℤ r.x +ℤ r.w

-- 1/16 of a layout unit
unfoldable pub sixteenth : ℕ
sixteenth = 2 ^ 145

-- "The centred search is what `clear_picture_aspect` does before its side search; its width is the f32 that the source's definition gives for the arguments from which the returned game comes"
abbrev pub centred_width : List Rect → Rect → Float → Float
centred_width elements area aspect = (centered_of area.w area.h (obstacles_of area elements) aspect).w

-- a rectangle over d that the game is measured against: of the shape p to q, both above 0, inside the area, it meets no element, and is centred unless the centred search ended at width zero
pub record Rival (p q : ℕ) (elements : List Rect) (area : Rect) (found : Float) (d : ℕ) (r : Exact) : Type 0 where
  pub wide : T (lt_z (pos 0) r.w)
  pub high : T (lt_z (pos 0) r.h)
  pub shape : r.w *ℤ pos q ≡ r.h *ℤ pos p
  pub within : T (inside r (over d area))
  pub clear : Each (λ e. T (not (meets r (over d e)))) elements
  pub position : (middle r ≡ middle (over d area)) ⊎ (value found ≡ pos 0)

-- the numbers of the game and of the elements are finite, no rival is more than 1/16 wider than the game, and the game meets no element by over 1/16 both across and down
pub record Widest (p q : ℕ) (elements : List Rect) (area : Rect) (found : Float) (game : Rect) : Type 0 where
  pub finite : WholeRect game
  pub finite_elements : Each WholeRect elements
  pub widest : (d : ℕ) → 0 < d → (r : Exact) → Rival p q elements area found d r → T (le_z r.w ((value game.w +ℤ pos sixteenth) *ℤ pos d))
  pub apart : Each (λ e. T (le_z (meet_across (over 1 game) (over 1 e)) (pos sixteenth) || le_z (meet_down (over 1 game) (over 1 e)) (pos sixteenth))) elements

-- a layout's own game, in an area and for an aspect
abbrev pub WidestGame : ℕ → ℕ → Rect → Float → Layout → Type 0
WidestGame p q area aspect l = Widest p q (elements_of l) area (centred_width (elements_of l) area aspect) l.game
