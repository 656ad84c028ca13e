-- The three fields of a layout as the code makes them: their values are short, and together they are its bytes.
use mathlib.Core.Path.{◌≡◌}
use mathlib.Core.List.{List, ◌++◌, map, flat_map, append_assoc}
use Rattle.layout.specs.declared.Control.{Control}
use Rattle.layout.specs.declared.Layout.{Layout}
use Rattle.layout.specs.Label.{mask_of}
use Rattle.layout.specs.Layout.{elements_of, control_list}
use Rattle.wire.specs.Wire.{short_bytes, rect_bytes, field_bytes}
use Rattle.fields.proofs.Rows.{flat_map_map}
use Rattle.writer.specs.Bytes.{mask_bytes, layout_bytes}

-- the value of tag 3
pub masks_same : (cs : List Control) → flat_map short_bytes (map (λ (c : Control). mask_of c.label) cs) ≡ flat_map mask_bytes cs
unfolding mask_bytes
masks_same cs = flat_map_map (λ (c : Control). mask_of c.label) short_bytes cs

pub layout_is : (l : Layout) → layout_bytes l ≡ field_bytes 1 (rect_bytes l.game) ++ field_bytes 2 (flat_map rect_bytes (elements_of l)) ++ field_bytes 3 (flat_map mask_bytes (control_list l))
unfolding layout_bytes
layout_is l = simp append_assoc
