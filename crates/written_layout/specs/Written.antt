-- The game and the elements of a written layout, as its bytes have them: document 01's tags 1 and 2.
use Rattle.std.specs.Prelude.{◌≡◌, true, List, ℕ, ◌/◌, length}
use Rattle.prelude.specs.Each.{Each}
use Rattle.geometry.specs.declared.Rect.{Rect}
use Rattle.geometry.specs.Rect.{rect_is_f32}
use Rattle.layout.specs.declared.Layout.{Layout}
use Rattle.layout.specs.Layout.{elements_of}
use Rattle.wire.specs.Wire.{rect_at_of, rects, field_value}

unfoldable pub written_game : List ℕ → Rect
written_game bytes = rect_at_of (field_value 3 1 bytes) 0

unfoldable pub written_elements : List ℕ → List Rect
written_elements bytes = let v = field_value 3 2 bytes in rects v (length v / 16)

-- every number that is written is a value of binary32, as the f32 of a program are
pub record LayoutIsF32 (l : Layout) : Type 0 where
  pub game : rect_is_f32 l.game ≡ true
  pub elements : Each (λ r. rect_is_f32 r ≡ true) (elements_of l)
