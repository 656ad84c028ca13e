-- The functions that hosts call with an order: its layout in bytes, the mask of a touch, fingers on its layout, and `PlayerViewport::layout`.
use Rattle.std.specs.Prelude.{List, ℕ, Float}
use Rattle.prelude.specs.Answer.{Answer, accepted, refused, must, and_then}
use Rattle.layout.specs.declared.Layout.{Layout}
use Rattle.settings.specs.Settings.{tops_in_limits_of}
use Rattle.touch.specs.Touch.{mask_near_of}
use Rattle.tracker.specs.declared.Tracker.{Tracker}
use Rattle.tracker.specs.Tracker.{Call, call_of}
use Rattle.reader.specs.Order.{read_order_of}
use Rattle.writer.specs.Bytes.{write_layout_of, output_of}
use Rattle.preset.specs.Preset.{settings_layout_of, settings_viewport_of}

-- ---- the layout of an order

unfoldable pub order_layout : List ℕ → Answer Layout
order_layout order = and_then (read_order_of order) (λ s. accepted (settings_layout_of s))

-- how many bytes are written, or a refusal
abbrev pub written_answer : Answer Layout → List ℕ → Answer ℕ
written_answer layout out = and_then layout (λ l. write_layout_of l out)

-- the output afterwards: as it was, on any refusal
abbrev pub written_output : Answer Layout → List ℕ → List ℕ
written_output (accepted l) out = output_of l out
written_output (refused n) out = out

unfoldable pub layout_of : List ℕ → List ℕ → Answer ℕ
layout_of order out = written_answer (order_layout order) out

unfoldable pub layout_output_of : List ℕ → List ℕ → List ℕ
layout_output_of order out = written_output (order_layout order) out

unfoldable pub touch_of : List ℕ → Float → Float → ℕ → Answer ℕ
touch_of order x y previous = and_then (order_layout order) (λ l. accepted (mask_near_of l x y previous))

-- ---- fingers on the layout of an order

-- the tracker that a call over that layout leaves, or a refusal: the order's first
unfoldable pub order_call_of : Tracker → List ℕ → (Layout → Call) → Answer Tracker
order_call_of t order call = and_then (order_layout order) (λ l. call_of t (call l))

-- ---- `PlayerViewport::layout`

-- "Faults are taken in tag order, the tops last."
unfoldable pub order_viewport : List ℕ → Float → Float → Answer Layout
order_viewport order reusable covered =
    and_then (read_order_of order) (λ s. must (tops_in_limits_of reusable covered) 6 (accepted (settings_viewport_of s reusable covered)))

unfoldable pub viewport_of : List ℕ → Float → Float → List ℕ → Answer ℕ
viewport_of order reusable covered out = written_answer (order_viewport order reusable covered) out

unfoldable pub viewport_output_of : List ℕ → Float → Float → List ℕ → List ℕ
viewport_output_of order reusable covered out = written_output (order_viewport order reusable covered) out
