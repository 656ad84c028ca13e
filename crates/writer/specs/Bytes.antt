-- The layout as document 01's bytes.
use mathlib.Core.List.{List, ◌++◌, flat_map}
use Rattle.std.specs.Prelude.{ℕ, length}
use Rattle.prelude.specs.Answer.{Answer}
use Rattle.layout.specs.declared.Control.{Control}
use Rattle.layout.specs.declared.Layout.{Layout}
use Rattle.layout.specs.Label.{mask_of}
use Rattle.layout.specs.Layout.{control_list, elements_of}
use Rattle.wire.specs.Wire.{short_bytes, rect_bytes, field_bytes, room_for, with_front}

-- a control's mask
unfoldable pub mask_bytes : Control → List ℕ
mask_bytes c = short_bytes (mask_of c.label)

-- the game, all elements, the mask of each control
unfoldable pub layout_bytes : Layout → List ℕ
layout_bytes l =
    field_bytes 1 (rect_bytes l.game)
    ++ (field_bytes 2 (flat_map rect_bytes (elements_of l))
    ++ field_bytes 3 (flat_map mask_bytes (control_list l)))

-- how many bytes are written, or a refusal
unfoldable pub write_layout_of : Layout → List ℕ → Answer ℕ
write_layout_of l out = room_for (length (layout_bytes l)) out

-- the output afterwards: later bytes stay, and all of them on refusal
unfoldable pub output_of : Layout → List ℕ → List ℕ
output_of l out = with_front (layout_bytes l) out
