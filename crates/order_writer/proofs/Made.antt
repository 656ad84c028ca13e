-- The seven fields as the code makes them: together they are the bytes of the settings with their lists; how long these are, and what the fields put one after the other.
use mathlib.Core.Path.{◌≡◌, refl, ap, ◌∙◌}
use mathlib.Core.Bool.{Bool}
use mathlib.Core.List.{List, [], ◌∷◌, ◌++◌, flat_map, append_assoc}
use Prim.Native.Nat.{ℕ, ◌+◌, ◌<◌, ◌≤◌}
use native.Mathlib.Omega.{arith}
use lib.Dec.{eqb}
use lib.ListN.{length, length-append}
use Rattle.prelude.specs.Lists.{stored}
use Rattle.geometry.specs.declared.Rect.{Rect}
use Rattle.settings.specs.declared.Settings.{Settings}
use Rattle.settings.specs.Settings.{default_of, screen_picture_of, mode_byte_of, fit_byte_of, untouched_of}
use Rattle.wire.specs.Wire.{rect_bytes, field_bytes}
use Rattle.wire.proofs.Items.{length_rect, length_items}
use Rattle.fields.specs.Fields.{field_unless}
use Rattle.fields.proofs.Fields.{first, next}
use Rattle.order_writer.specs.OrderBytes.{screen_bytes, place_bytes, equal_of, all_fields}

-- the value of a field of so many rectangles is short
pub short_list : (l : List Rect) → length l ≤ 32 → length (flat_map rect_bytes l) < 65536
short_list l few = omega (arith, length_items rect_bytes 16 length_rect l)

default_mode : mode_byte_of default_of ≡ 0
unfolding mode_byte_of default_of
default_mode = refl

default_fit : fit_byte_of default_of.fit ≡ 1
unfolding fit_byte_of default_of
default_fit = refl

lengths : (a b c d e f g : List ℕ) → length (a ++ b ++ c ++ d ++ e ++ f ++ g) ≡ length a + length b + length c + length d + length e + length f + length g
lengths a b c d e f g = simp length-append

module _ (s : Settings) (cutouts saved : List Rect) {no-picture no-place : Bool} {mode fit k n : ℕ}
    (a : no-picture ≡ equal_of s.picture (screen_picture_of s.w s.h)) (m : mode ≡ mode_byte_of s.preset) (t : fit ≡ fit_byte_of s.preset.fit) (u : no-place ≡ untouched_of s.preset)
    (c : k ≡ length cutouts) (e : n ≡ length saved) where
  abbrev f1 : List ℕ
  f1 = field_bytes 1 (screen_bytes s.w s.h)

  abbrev f2 : List ℕ
  f2 = field_unless no-picture 2 (rect_bytes s.picture)

  abbrev f3 : List ℕ
  f3 = field_unless (eqb mode 0) 3 (mode ∷ [])

  abbrev f4 : List ℕ
  f4 = field_unless (eqb fit 1) 4 (fit ∷ [])

  abbrev f5 : List ℕ
  f5 = field_unless no-place 5 (place_bytes s.preset.scale s.preset.offset)

  abbrev f6 : List ℕ
  f6 = field_unless (eqb k 0) 6 (flat_map rect_bytes cutouts)

  abbrev f7 : List ℕ
  f7 = field_unless (eqb n 0) 7 (flat_map rect_bytes saved)

  made : all_fields s cutouts saved ≡ f1 ++ f2 ++ f3 ++ f4 ++ f5 ++ f6 ++ f7
  made = rw (a, m, t, u, c, e, default_mode, default_fit) (simp append_assoc)

  pub fields_length : {n1 n2 n3 n4 n5 n6 n7 : ℕ} → n1 ≡ length f1 → n2 ≡ length f2 → n3 ≡ length f3 → n4 ≡ length f4 → n5 ≡ length f5 → n6 ≡ length f6 → n7 ≡ length f7
      → n1 + n2 + n3 + n4 + n5 + n6 + n7 ≡ length (all_fields s cutouts saved)
  fields_length p1 p2 p3 p4 p5 p6 p7 = rw (p1, p2, p3, p4, p5, p6, p7, made, lengths f1 f2 f3 f4 f5 f6 f7)

  pub fields_run : (out : List ℕ) {o1 o2 o3 o4 o5 o6 o7 : List ℕ} {n1 n2 n3 n4 n5 n6 n7 : ℕ}
      → n1 ≡ 0 + length f1 → o1 ≡ stored out 0 f1 → n2 ≡ n1 + length f2 → o2 ≡ stored o1 n1 f2 → n3 ≡ n2 + length f3 → o3 ≡ stored o2 n2 f3
      → n4 ≡ n3 + length f4 → o4 ≡ stored o3 n3 f4 → n5 ≡ n4 + length f5 → o5 ≡ stored o4 n4 f5 → n6 ≡ n5 + length f6 → o6 ≡ stored o5 n5 f6
      → n7 ≡ n6 + length f7 → o7 ≡ stored o6 n6 f7 → o7 ≡ stored out 0 (all_fields s cutouts saved)
  fields_run out p1 q1 p2 q2 p3 q3 p4 q4 p5 q5 p6 q6 p7 q7 =
      rw made (next f7 (next f6 (next f5 (next f4 (next f3 (next f2 (first f1 p1 q1) p2 q2) p3 q3) p4 q4) p5 q5) p6 q6) p7 q7).is
