-- What hosts may count on, of an order's answer; proved in `proofs/OrderLaws.antt`.
use Rattle.std.specs.Prelude.{◌≡◌, true, cond, List, ℕ, Float}
use Rattle.prelude.specs.Answer.{accepted}
use Rattle.settings.specs.declared.Preset.{Preset}
use Rattle.settings.specs.declared.Settings.{Settings}
use Rattle.settings.specs.Settings.{tops_in_limits_of}
use Rattle.reader.specs.Order.{read_order_of}
use Rattle.wire.specs.Wire.{room_for}
use Rattle.order.specs.Orders.{layout_of, viewport_of}

-- "It takes 285 bytes standard, 353 analog, 265 psp."
abbrev pub bytes_for : Preset → ℕ
bytes_for p = cond p.psp 265 (cond p.analog 353 285)

-- An order that is not refused gets so many bytes, where there is room for them.
abbrev pub LayoutBytes : Type 0
LayoutBytes = (order : List ℕ) (s : Settings) → read_order_of order ≡ accepted s → (out : List ℕ) → layout_of order out ≡ room_for (bytes_for s.preset) out

-- So does its viewport, where the tops are in their limits.
abbrev pub ViewportBytes : Type 0
ViewportBytes =
    (order : List ℕ) (s : Settings) → read_order_of order ≡ accepted s → (out : List ℕ) (reusable covered : Float) → tops_in_limits_of reusable covered ≡ true →
    viewport_of order reusable covered out ≡ room_for (bytes_for s.preset) out
