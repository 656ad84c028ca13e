-- `Rect` of input.rs.
use Rattle.std.specs.Prelude.{Bool, ◌&&◌, List, ◌++◌, ℕ, ◌-◌, Float, replicate}
use Rattle.std.specs.Float.{binary32}
use Rattle.std.specs.Float.Ieee.{fits, lt, le}
use Rattle.float.specs.Float.{◌⊕◌, ◌⊖◌, ◌⊗◌, ◌⊘◌, k0, k0_01, k2}
use Rattle.float.specs.MinMax.{min_of, abs_of}
use Rattle.geometry.specs.declared.Rect.{Rect}

abbrev pub new_of : Float → Float → Float → Float → Rect
new_of x y w h = record { x = x; y = y; w = w; h = h }

-- moved by dx and dy
abbrev pub shifted_of : Rect → Float → Float → Rect
shifted_of r dx dy = new_of (r.x ⊕ dx) (r.y ⊕ dy) r.w r.h

-- `Rect::default()`
abbrev pub empty_rect : Rect
empty_rect = new_of k0 k0 k0 k0

-- n rectangles in an array of `size`, with zeros behind them
abbrev pub rect_array : ℕ → ℕ → List Rect → List Rect
rect_array size n l = l ++ replicate (size - n) empty_rect

-- Half-open: the left and upper edges belong to the rectangle, the right and lower ones do not.
unfoldable pub contains_of : Rect → Float → Float → Bool
contains_of r x y = le r.x x && (le r.y y && (lt x (r.x ⊕ r.w) && lt y (r.y ⊕ r.h)))

-- on a screen w by h: a test of `avoid_cutouts`, and with 0.01 more of `fits` in picture.rs
unfoldable pub inside_of : Rect → Float → Float → Bool
inside_of r w h = le k0 r.x && (le k0 r.y && (le (r.x ⊕ r.w) w && le (r.y ⊕ r.h) h))

unfoldable pub fit_of : Rect → Float → Rect
fit_of r aspect =
    let w = min_of r.w (r.h ⊗ aspect) in
    let h = w ⊘ aspect in
    new_of (r.x ⊕ (r.w ⊖ w) ⊘ k2) (r.y ⊕ (r.h ⊖ h) ⊘ k2) w h

-- Across and down, each begins more than 0.01 before the other ends. So neighbours that share 0.01 or less do not overlap, and a
-- rectangle without width or height that lies more than 0.01 inside another does.
unfoldable pub overlaps_of : Rect → Rect → Bool
overlaps_of a b =
    lt a.x (b.x ⊕ b.w ⊖ k0_01)
    && (lt (b.x ⊕ k0_01) (a.x ⊕ a.w)
    && (lt a.y (b.y ⊕ b.h ⊖ k0_01)
    && lt (b.y ⊕ k0_01) (a.y ⊕ a.h)))

unfoldable pub near_of : Float → Float → Bool
near_of a b = lt (abs_of (a ⊖ b)) k0_01

unfoldable pub same_bounds_of : Rect → Rect → Bool
same_bounds_of a b = near_of a.x b.x && (near_of a.y b.y && (near_of a.w b.w && near_of a.h b.h))

-- its numbers are values of binary32, as the f32 of a program are
unfoldable pub rect_is_f32 : Rect → Bool
rect_is_f32 r = fits binary32 r.x && (fits binary32 r.y && (fits binary32 r.w && fits binary32 r.h))
