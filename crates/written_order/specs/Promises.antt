-- What may be counted on of written orders; each is proved, under its own name, in `proofs/`.
use Rattle.std.specs.Prelude.{◌≡◌, true, ℕ, ◌≤◌, Float, length}
use mathlib.Core.List.{List, [], ◌∷◌, ◌++◌, flat_map}
use Rattle.prelude.specs.Answer.{accepted, refusal_of}
use Rattle.geometry.specs.declared.Rect.{Rect}
use Rattle.geometry.specs.declared.Offset.{Offset}
use Rattle.layout.specs.Layout.{cutout_list}
use Rattle.settings.specs.declared.Settings.{Settings}
use Rattle.settings.specs.Settings.{saved_list, mode_byte_of, fit_byte_of, first_fault_of, accepted_of, IsF32, Fitting}
use Rattle.wire.specs.Wire.{number_bytes, rect_bytes, field_bytes}
use Rattle.reader.specs.Order.{read_order_of}
use Rattle.order_writer.specs.OrderBytes.{replaced_of, screen_field, order_bytes}

-- "Reading such bytes gives the settings after those two replacements,"
abbrev pub ReadsBack : Type 0
ReadsBack = (s : Settings) → IsF32 s → Fitting s → accepted_of s ≡ true → read_order_of (order_bytes s) ≡ accepted (replaced_of s)

-- "and two settings get equal bytes only if they agree after them."
abbrev pub Injective : Type 0
Injective =
    (s t : Settings) → IsF32 s → IsF32 t → Fitting s → Fitting t → accepted_of s ≡ true → accepted_of t ≡ true →
    order_bytes s ≡ order_bytes t → replaced_of s ≡ replaced_of t

abbrev pub SameBytes : Type 0
SameBytes = (s t : Settings) → replaced_of s ≡ replaced_of t → order_bytes s ≡ order_bytes t

-- No bytes that give these settings are fewer: each field that stands there is needed.
abbrev pub Shortest : Type 0
Shortest = (s : Settings) (bytes : List ℕ) → read_order_of bytes ≡ accepted (replaced_of s) → length (order_bytes s) ≤ length bytes

-- 827 bytes hold every order that is written.
abbrev pub OrderSmall : Type 0
OrderSmall = (s : Settings) → accepted_of s ≡ true → length (order_bytes s) ≤ 827

-- ---- "Settings that the reader would refuse get the same 5, 6 or 7, in tag order."

-- these values, each in its field
unfoldable pub every_field : Float → Float → Rect → ℕ → ℕ → Float → Offset → List Rect → List Rect → List ℕ
every_field w h picture mode fit scale offset cutouts saved =
    screen_field w h
    ++ (field_bytes 2 (rect_bytes picture)
    ++ (field_bytes 3 (mode ∷ [])
    ++ (field_bytes 4 (fit ∷ [])
    ++ (field_bytes 5 (number_bytes scale ++ (number_bytes offset.x ++ number_bytes offset.y))
    ++ (field_bytes 6 (flat_map rect_bytes cutouts)
    ++ field_bytes 7 (flat_map rect_bytes saved))))))

abbrev pub every_field_of : Settings → List ℕ
every_field_of s =
    let p = s.preset in
    every_field s.w s.h s.picture (mode_byte_of p) (fit_byte_of p.fit) p.scale p.offset (cutout_list s.cutouts) (saved_list p)

abbrev pub RefusedAlike : Type 0
RefusedAlike = (s : Settings) → IsF32 s → Fitting s → refusal_of (read_order_of (every_field_of s)) ≡ first_fault_of 0 0 s
