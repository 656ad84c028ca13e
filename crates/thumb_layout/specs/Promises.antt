-- What a host may count on, of the functions for other languages; each is proved, under its own name, in `proofs/InterfaceLaws.antt`.
use Rattle.std.specs.Prelude.{◌≡◌, List, ◌⊎◌, ℕ, suc, ◌<◌, ◌≤◌, Float, ℤ, negsuc}
use Rattle.std.specs.Int.Signed.{mag}
use Rattle.prelude.specs.Answer.{refused}
use Rattle.layout.specs.declared.Layout.{Layout}
use Rattle.tracker.specs.declared.Tracker.{Tracker}
use Rattle.tracker.specs.Tracker.{Call}
use Rattle.reader.specs.Order.{read_order_of}
use Rattle.order.specs.Orders.{layout_output_of, viewport_output_of}
use Rattle.thumb_layout.specs.Interface.{tl_layout_of, tl_touch_of, tl_viewport_layout_of, tl_film_of, tl_safe_content_of, tl_safe_content_output_of, tl_safe_edges_of, tl_safe_edges_output_of}
use Rattle.thumb_layout.specs.Interface.{tl_masks_of, tl_tracker_of, tl_write_order_of, tl_write_order_output_of}

-- ---- lengths: the magnitude of an answer

-- 353 bytes hold every layout.
abbrev pub LayoutSmall : Type 0
LayoutSmall = (order out : List ℕ) → mag (tl_layout_of order out) ≤ 353

-- They hold every viewport's, too.
abbrev pub ViewportSmall : Type 0
ViewportSmall = (order out : List ℕ) (reusable covered : Float) → mag (tl_viewport_layout_of order reusable covered out) ≤ 353

-- 827 bytes hold every order that is written.
abbrev pub WriteOrderSmall : Type 0
WriteOrderSmall = (numbers : List Float) (mode fit : ℕ) (cutouts saved : List Float) (out : List ℕ) → mag (tl_write_order_of numbers mode fit cutouts saved out) ≤ 827

-- A film sheet's text has 788 bytes at most.
abbrev pub FilmSmall : Type 0
FilmSmall = (order : List ℕ) → mag (tl_film_of order) ≤ 788

-- ---- an answer below 0, which is negsuc n, -(n + 1), is minus the number of a refusal

-- Of a layout it is one of the eight, and the lent output is as it was.
abbrev pub LayoutBelow : Type 0
LayoutBelow = (order out : List ℕ) (n : ℕ) → tl_layout_of order out ≡ negsuc n → (n < 8) × (layout_output_of order out ≡ out)

-- Of a viewport, too.
abbrev pub ViewportBelow : Type 0
ViewportBelow = (order out : List ℕ) (reusable covered : Float) (n : ℕ) → tl_viewport_layout_of order reusable covered out ≡ negsuc n → (n < 8) × (viewport_output_of order reusable covered out ≡ out)

-- Of a touch it is the refusal of its order.
abbrev pub TouchBelow : Type 0
TouchBelow = (order : List ℕ) (x y : Float) (previous n : ℕ) → tl_touch_of order x y previous ≡ negsuc n → read_order_of order ≡ refused (suc n)

-- Of a finger's call it is the refusal of its order, or 9 or 10, in both numbers, and the lent tracker is as it was.
abbrev pub CallBelow : Type 0
CallBelow =
    (t : Tracker) (order : List ℕ) (finger : ℕ) (call : Layout → Call) (n : ℕ) →
    let masks = tl_masks_of t order finger call in
    (masks.mask ≡ negsuc n) ⊎ (masks.combined ≡ negsuc n) →
    ((read_order_of order ≡ refused (suc n)) ⊎ ((n ≡ 8) ⊎ (n ≡ 9))) × (masks.mask ≡ negsuc n) × (masks.combined ≡ negsuc n) × (tl_tracker_of t order call ≡ t)

-- Of an order that is written it is 5, 6, 7 or 8, or 100 for a bad call, and the lent output is as it was.
abbrev pub WriteOrderBelow : Type 0
WriteOrderBelow =
    (numbers : List Float) (mode fit : ℕ) (cutouts saved : List Float) (out : List ℕ) (n : ℕ) → tl_write_order_of numbers mode fit cutouts saved out ≡ negsuc n →
    ((n ≡ 99) ⊎ ((4 ≤ n) × (n < 8))) × (tl_write_order_output_of numbers mode fit cutouts saved out ≡ out)

-- Of the safe area it is 6 alone, for a number off the scale, and the lent output is as it was.
abbrev pub ContentBelow : Type 0
ContentBelow = (numbers : List ℤ) (area : List Float) (n : ℕ) → tl_safe_content_of numbers ≡ negsuc n → (n ≡ 5) × (tl_safe_content_output_of numbers area ≡ area)

abbrev pub EdgesBelow : Type 0
EdgesBelow = (numbers : List ℤ) (local : ℕ) (edges : List ℤ) (n : ℕ) → tl_safe_edges_of numbers local ≡ negsuc n → (n ≡ 5) × (tl_safe_edges_output_of numbers local edges ≡ edges)
