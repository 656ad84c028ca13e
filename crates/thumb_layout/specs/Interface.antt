-- The functions for hosts in other languages: each answer as one number, and each lent output afterwards.
use Rattle.std.specs.Prelude.{Bool, not, List, [], ◌∷◌, ℕ, ◌+◌, ◌%◌, eqb, Float, ℤ, pos, neg_ℤ, length}
use Rattle.prelude.specs.Answer.{Answer, accepted, refused, must, and_then}
use Rattle.geometry.specs.declared.Rect.{Rect}
use Rattle.layout.specs.declared.Layout.{Layout}
use Rattle.tracker.specs.declared.Tracker.{Tracker}
use Rattle.tracker.specs.Tracker.{Call, masks_of, kept_or}
use Rattle.safe_area.specs.Safe.{entry, safe_content_of, safe_edges_of}
use Rattle.safe_area.specs.declared.Edges.{Edges}
use Rattle.settings.specs.declared.Settings.{Settings}
use Rattle.settings.specs.Settings.{tested_of}
use Rattle.order_writer.specs.Numbers.{settings_from}
use Rattle.order_writer.specs.OrderBytes.{written_order_of, written_order_output}
use Rattle.order.specs.Orders.{layout_of, touch_of, order_call_of, viewport_of}
use Rattle.film_sheet.specs.Film.{film_sheet_of}
use Rattle.thumb_layout.specs.declared.Masks.{Masks}

-- an answer as a number: minus the refusal's, if it is one
abbrev pub number_of : Answer ℕ → ℤ
number_of (accepted n) = pos n
number_of (refused n) = neg_ℤ (pos n)

-- ---- the functions over an order; their outputs are those of crate `order`

unfoldable pub tl_layout_of : List ℕ → List ℕ → ℤ
tl_layout_of order out = number_of (layout_of order out)

unfoldable pub tl_touch_of : List ℕ → Float → Float → ℕ → ℤ
tl_touch_of order x y previous = number_of (touch_of order x y previous)

unfoldable pub tl_viewport_layout_of : List ℕ → Float → Float → List ℕ → ℤ
tl_viewport_layout_of order reusable covered out = number_of (viewport_of order reusable covered out)

-- ---- fingers on the layout of an order

-- minus a refusal in both, if it is one
abbrev pub masks_numbers : Answer (ℕ × ℕ) → Masks
masks_numbers answer = record {
  mask = number_of (and_then answer (λ masks. accepted masks.0));
  combined = number_of (and_then answer (λ masks. accepted masks.1));
}

unfoldable pub tl_masks_of : Tracker → List ℕ → ℕ → (Layout → Call) → Masks
tl_masks_of t order finger call = masks_numbers (masks_of finger (order_call_of t order call))

unfoldable pub tl_tracker_of : Tracker → List ℕ → (Layout → Call) → Tracker
tl_tracker_of t order call = kept_or t (order_call_of t order call)

-- ---- settings as numbers

unfoldable pub whole_rects : List Float → Bool
whole_rects numbers = eqb (length numbers % 4) 0

-- 100, a bad call, is no refusal of an order
unfoldable pub tested_from : List Float → ℕ → ℕ → List Float → List Float → Answer Settings
tested_from numbers mode fit cutouts saved =
    must (whole_rects cutouts) 100 (must (whole_rects saved) 100 (tested_of mode fit (settings_from numbers mode fit cutouts saved)))

unfoldable pub tl_write_order_of : List Float → ℕ → ℕ → List Float → List Float → List ℕ → ℤ
tl_write_order_of numbers mode fit cutouts saved out = number_of (written_order_of (tested_from numbers mode fit cutouts saved) out)

unfoldable pub tl_write_order_output_of : List Float → ℕ → ℕ → List Float → List Float → List ℕ → List ℕ
tl_write_order_output_of numbers mode fit cutouts saved out = written_order_output (tested_from numbers mode fit cutouts saved) out

-- ---- the film sheet, of a refused order too; its 1,024 bytes are those of crate `film_sheet`

-- the text's length
unfoldable pub tl_film_of : List ℕ → ℤ
tl_film_of order = pos (film_sheet_of order).len

-- ---- the safe area: four numbers, or refusal 6, which leaves the output as it was

-- 0, or minus the refusal
abbrev pub status_of : {A : Type 0} → Answer A → ℤ
status_of a = number_of (and_then a (λ v. accepted 0))

-- two numbers, and four, from place i on
unfoldable pub two_of : List ℤ → ℕ → List ℤ
two_of numbers i = entry numbers i ∷ entry numbers (i + 1) ∷ []

unfoldable pub four_of : List ℤ → ℕ → List ℤ
four_of numbers i = entry numbers i ∷ entry numbers (i + 1) ∷ entry numbers (i + 2) ∷ entry numbers (i + 3) ∷ []

-- of eight numbers: the size, the inset size, the edges
unfoldable pub content_from : List ℤ → Answer Rect
content_from numbers = safe_content_of (two_of numbers 0) (two_of numbers 2) (four_of numbers 4)

abbrev pub area_after : Answer Rect → List Float → List Float
area_after (accepted r) area = r.x ∷ r.y ∷ r.w ∷ r.h ∷ []
area_after (refused n) area = area

unfoldable pub tl_safe_content_of : List ℤ → ℤ
tl_safe_content_of numbers = status_of (content_from numbers)

unfoldable pub tl_safe_content_output_of : List ℤ → List Float → List Float
tl_safe_content_output_of numbers area = area_after (content_from numbers) area

-- of twelve numbers: the edges of decoration, navigation and camera; any mark but 0 says that a side camera is a local obstacle
unfoldable pub edges_from : List ℤ → ℕ → Answer Edges
edges_from numbers local = safe_edges_of (four_of numbers 0) (four_of numbers 4) (four_of numbers 8) (not (eqb local 0))

abbrev pub edges_after : Answer Edges → List ℤ → List ℤ
edges_after (accepted e) edges = e.left ∷ e.top ∷ e.right ∷ e.bottom ∷ []
edges_after (refused n) edges = edges

unfoldable pub tl_safe_edges_of : List ℤ → ℕ → ℤ
tl_safe_edges_of numbers local = status_of (edges_from numbers local)

unfoldable pub tl_safe_edges_output_of : List ℤ → ℕ → List ℤ → List ℤ
tl_safe_edges_output_of numbers local edges = edges_after (edges_from numbers local) edges
