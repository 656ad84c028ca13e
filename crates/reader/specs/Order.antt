-- The order, as document 01's section of that name has it: the settings that bytes give, or the number of their first fault.
use Rattle.std.specs.Prelude.{Bool, false, ◌&&◌, ◌||◌, cond, List, [], ◌∷◌, ℕ, zero, suc, ◌/◌, ◌%◌, eqb, ltb, leb, length, get_or, take, drop}
use Rattle.prelude.specs.Answer.{Answer, accepted, refused, must, and_then}
use Rattle.geometry.specs.declared.Offset.{Offset}
use Rattle.layout.specs.declared.Cutouts.{Cutouts}
use Rattle.settings.specs.declared.Settings.{Settings}
use Rattle.settings.specs.Settings.{absent_of, with_fit, with_place, with_elements, with_screen, with_picture, with_preset, with_cutouts}
use Rattle.settings.specs.Settings.{screen_picture_of, with_mode_byte, fit_mark_of, must_screen, must_picture, must_mode, must_fit, must_place, must_cutouts, must_saved}
use Rattle.wire.specs.Wire.{short_of, number_at_of, rect_at_of, filled}
use Rattle.reader.specs.declared.Tag.{Tag}

-- ---- the seven fields: the settings with a value put in, or 3 bad length, 7 overfull, 5 odd mark, 6 off the scale

-- A picture follows in tag 2, or else it is what an absent one means.
unfoldable pub read_screen_of : List ℕ → Settings → Answer Settings
read_screen_of v s =
    let w = number_at_of v 0 in
    let h = number_at_of v 1 in
    must (eqb (length v) 8) 3
    (must_screen w h
    (accepted (with_screen s w h (screen_picture_of w h))))

unfoldable pub read_picture_of : List ℕ → Settings → Answer Settings
read_picture_of v s =
    let picture = rect_at_of v 0 in
    must (eqb (length v) 16) 3
    (must_picture picture
    (accepted (with_picture s picture)))

unfoldable pub read_mode_of : List ℕ → Settings → Answer Settings
read_mode_of v s =
    let b = get_or v 0 0 in
    must (eqb (length v) 1) 3
    (must_mode b
    (accepted (with_preset s (with_mode_byte s.preset b))))

unfoldable pub read_fit_of : List ℕ → Settings → Answer Settings
read_fit_of v s =
    let b = get_or v 0 0 in
    must (eqb (length v) 1) 3
    (must_fit b
    (accepted (with_preset s (with_fit s.preset (fit_mark_of b)))))

-- `game_scale` and `game_offset`
unfoldable pub read_place_of : List ℕ → Settings → Answer Settings
read_place_of v s =
    let scale = number_at_of v 0 in
    let offset : Offset = record { x = number_at_of v 1; y = number_at_of v 2 } in
    must (eqb (length v) 12) 3
    (must_place scale offset
    (accepted (with_preset s (with_place s.preset scale offset))))

unfoldable pub read_cutouts_of : List ℕ → Settings → Answer Settings
read_cutouts_of v s =
    let n = length v / 16 in
    let cutouts : Cutouts = record { at = filled 16 v n; count = n } in
    must (eqb (length v % 16) 0) 3
    (must_cutouts cutouts
    (accepted (with_cutouts s cutouts)))

-- Saved rectangles take any f32.
unfoldable pub read_saved_of : List ℕ → Settings → Answer Settings
read_saved_of v s =
    let n = length v / 16 in
    must (eqb (length v % 16) 0) 3
    (must_saved n
    (accepted (with_preset s (with_elements s.preset (filled 32 v n) n))))

-- ---- the fields one after the other

-- of a byte from 1 to 7
unfoldable pub from_byte_of : ℕ → Tag
from_byte_of b =
    cond (eqb b 1) Tag.Screen
    (cond (eqb b 2) Tag.Picture
    (cond (eqb b 3) Tag.Mode
    (cond (eqb b 4) Tag.Fit
    (cond (eqb b 5) Tag.Place
    (cond (eqb b 6) Tag.Cutouts
    Tag.Saved)))))

-- of any byte: a tag, or 2 out of turn
unfoldable pub tag_of : ℕ → Answer Tag
tag_of b = must (ltb 0 b && leb b 7) 2 (accepted (from_byte_of b))

unfoldable pub read_field_of : Tag → List ℕ → Settings → Answer Settings
read_field_of Tag.Screen v s = read_screen_of v s
read_field_of Tag.Picture v s = read_picture_of v s
read_field_of Tag.Mode v s = read_mode_of v s
read_field_of Tag.Fit v s = read_fit_of v s
read_field_of Tag.Place v s = read_place_of v s
read_field_of Tag.Cutouts v s = read_cutouts_of v s
read_field_of Tag.Saved v s = read_saved_of v s

-- The fields that are left, after one with the tag `last`: 1 cut off, 2 out of turn, and 4 where the bytes end and there was no screen.
-- Tags rise, so no order has an eighth field, and eight turns come to its end or to its first fault.
unfoldable pub fields : ℕ → ℕ → Bool → Settings → List ℕ → Answer Settings
fields zero last screen s bytes = refused 2
fields (suc turns) last screen s [] = must screen 4 (accepted s)
fields (suc turns) last screen s (a ∷ []) = refused 1
fields (suc turns) last screen s (a ∷ b ∷ []) = refused 1
fields (suc turns) last screen s (tag ∷ high ∷ low ∷ rest) =
    let n = short_of high low in
    must (ltb last tag && leb tag 7) 2
    (must (leb n (length rest)) 1
    (and_then (read_field_of (from_byte_of tag) (take n rest) s) (λ t. fields turns tag (screen || eqb tag 1) t (drop n rest))))

unfoldable pub read_order_of : List ℕ → Answer Settings
read_order_of bytes = fields 8 0 false absent_of bytes
