-- Settings as the bytes of an order: W-201 of document 02.
use Rattle.std.specs.Prelude.{Bool, ◌&&◌, cond, ℕ, eqb, Float, length}
use mathlib.Core.List.{List, [], ◌∷◌, ◌++◌, map, flat_map}
use Rattle.std.specs.Float.{binary32}
use Rattle.std.specs.Float.Ieee.{of_bits, eq}
use Rattle.prelude.specs.Answer.{Answer, accepted, refused, and_then}
use Rattle.prelude.specs.Lists.{is_empty}
use Rattle.geometry.specs.declared.Rect.{Rect}
use Rattle.geometry.specs.Rect.{new_of, rect_array}
use Rattle.geometry.specs.declared.Offset.{Offset}
use Rattle.layout.specs.declared.Cutouts.{Cutouts}
use Rattle.layout.specs.Layout.{cutout_list}
use Rattle.settings.specs.declared.Preset.{Preset}
use Rattle.settings.specs.declared.Settings.{Settings}
use Rattle.settings.specs.Settings.{saved_list, default_of, with_place, with_elements, with_screen, with_preset, with_cutouts}
use Rattle.settings.specs.Settings.{screen_picture_of, mode_byte_of, fit_byte_of, untouched_of, usable_of, tested_of}
use Rattle.fields.specs.Fields.{field_unless}
use Rattle.wire.specs.Wire.{number_bytes, rect_bytes, field_bytes, plus_zero, plus_zero_rect, room_for, with_front}

-- ---- the two replacements

-- "a saved rectangle with a non-finite number becomes four times the hexadecimal 7FC00000"
unfoldable pub writable_of : Rect → Rect
writable_of r = let n = of_bits binary32 0x7fc0_0000 in cond (usable_of r) r (new_of n n n n)

abbrev pub replaced_saved : Rect → Rect
replaced_saved r = plus_zero_rect (writable_of r)

unfoldable pub replaced_preset : Preset → Preset
replaced_preset p =
    let offset : Offset = record { x = plus_zero p.offset.x; y = plus_zero p.offset.y } in
    with_elements (with_place p (plus_zero p.scale) offset) (rect_array 32 p.count (map replaced_saved (saved_list p))) p.count

unfoldable pub replaced_cutouts : Cutouts → Cutouts
replaced_cutouts c = record { at = rect_array 16 c.count (map plus_zero_rect (cutout_list c)); count = c.count }

-- The settings after both: "Negative zero is written as plus zero", in every number. What stands in an array past its count is no part of
-- settings; here it is zeros, as the reader leaves it.
unfoldable pub replaced_of : Settings → Settings
replaced_of s =
    with_cutouts
    (with_preset (with_screen s (plus_zero s.w) (plus_zero s.h) (plus_zero_rect s.picture)) (replaced_preset s.preset))
    (replaced_cutouts s.cutouts)

-- ---- the fields

-- "A field that then has the value its absence means is left out.": `field_unless`
abbrev pub screen_bytes : Float → Float → List ℕ
screen_bytes w h = number_bytes w ++ number_bytes h

abbrev pub screen_field : Float → Float → List ℕ
screen_field w h = field_bytes 1 (screen_bytes w h)

-- as numbers
unfoldable pub equal_of : Rect → Rect → Bool
equal_of a b = eq a.x b.x && (eq a.y b.y && (eq a.w b.w && eq a.h b.h))

abbrev pub picture_field : Float → Float → Rect → List ℕ
picture_field w h r = field_unless (equal_of r (screen_picture_of w h)) 2 (rect_bytes r)

-- a field of one byte, beside the byte that its absence means
abbrev pub byte_field : ℕ → ℕ → ℕ → List ℕ
byte_field absent tag b = field_unless (eqb b absent) tag (b ∷ [])

abbrev pub place_bytes : Float → Offset → List ℕ
place_bytes scale offset = number_bytes scale ++ (number_bytes offset.x ++ number_bytes offset.y)

abbrev pub place_field : Preset → List ℕ
place_field p = field_unless (untouched_of p) 5 (place_bytes p.scale p.offset)

abbrev pub rects_field : ℕ → List Rect → List ℕ
rects_field tag rs = field_unless (is_empty rs) tag (flat_map rect_bytes rs)

-- tags 1 to 4
abbrev pub first_fields : Settings → List ℕ
first_fields s =
    screen_field s.w s.h
    ++ (picture_field s.w s.h s.picture
    ++ (byte_field (mode_byte_of default_of) 3 (mode_byte_of s.preset)
    ++ byte_field (fit_byte_of default_of.fit) 4 (fit_byte_of s.preset.fit)))

-- tags 5 to 7
abbrev pub last_fields : Preset → List Rect → List Rect → List ℕ
last_fields p cutouts saved = place_field p ++ (rects_field 6 cutouts ++ rects_field 7 saved)

-- settings, but with these lists
abbrev pub all_fields : Settings → List Rect → List Rect → List ℕ
all_fields s cutouts saved = first_fields s ++ last_fields s.preset cutouts saved

unfoldable pub fields_of : Settings → List ℕ
fields_of s = all_fields s (cutout_list s.cutouts) (saved_list s.preset)

unfoldable pub order_bytes : Settings → List ℕ
order_bytes s = fields_of (replaced_of s)

-- ---- written to an output

-- how many bytes tested settings take, or a refusal: theirs, then 8
abbrev pub written_order_of : Answer Settings → List ℕ → Answer ℕ
written_order_of tested out = and_then tested (λ s. room_for (length (order_bytes s)) out)

-- the output afterwards: "Later output bytes stay", and all of them on any refusal
abbrev pub written_order_output : Answer Settings → List ℕ → List ℕ
written_order_output (accepted s) out = with_front (order_bytes s) out
written_order_output (refused n) out = out

unfoldable pub write_order_of : Settings → List ℕ → Answer ℕ
write_order_of s out = written_order_of (tested_of 0 0 s) out

unfoldable pub order_output_of : Settings → List ℕ → List ℕ
order_output_of s out = written_order_output (tested_of 0 0 s) out
