-- The two replacements: what they leave of the lists, and that the bytes are those of the numbers as they were, with saved rectangles made writable.
use mathlib.Core.Path.{◌≡◌, refl, ◌∙◌}
use mathlib.Core.Bool.{Bool, true, false, cond}
use mathlib.Core.List.{List, [], ◌∷◌, ◌++◌, map, map-map}
use Prim.Native.Nat.{ℕ, ◌+◌, ◌-◌, ◌*◌, ◌≤◌}
use native.Mathlib.Nat.{zero-mul}
use native.Mathlib.Omega.{arith}
use borrow.Author.Tests.{lt-ltb}
use lib.IntN.{ℤ}
use lib.Ieee.Fits.{down_pos}
use lib.Ieee.{Float, fin, of_bits, up, down, lt, eq, ne}
use lib.Dec.{eqb}
use lib.ListN.{length, replicate, length-map}
use lib.Seq.{take_at, length-take-le}
use Rattle.std.specs.List.{list_all}
use Rattle.prelude.proofs.Booleans.{either, both}
use Rattle.float.specs.Float.{k0, k0_5, k1}
use Rattle.float.specs.MinMax.{max_of}
use Rattle.geometry.specs.declared.Rect.{Rect}
use Rattle.geometry.specs.Rect.{empty_rect, rect_is_f32}
use Rattle.layout.specs.declared.Cutouts.{Cutouts}
use Rattle.layout.specs.Layout.{cutout_list}
use Rattle.settings.specs.declared.Preset.{Preset}
use Rattle.settings.specs.declared.Settings.{Settings}
use Rattle.settings.specs.Settings.{saved_list, screen_picture_of, mode_byte_of, fit_byte_of, untouched_of, usable_of, Fitting}
use Rattle.wire.specs.Wire.{plus_zero, plus_zero_rect}
use Rattle.wire.proofs.Rects.{bits_f32}
use Rattle.wire.proofs.PlusZero.{zeros_same, number_same, rect_same, rects_same, eq_same}
use Rattle.order_writer.specs.OrderBytes.{writable_of, replaced_preset, replaced_cutouts, replaced_of, equal_of, place_field, rects_field, first_fields, last_fields, all_fields, fields_of, order_bytes}

-- ---- lists
writable_f32 : (r : Rect) → rect_is_f32 r ≡ true → rect_is_f32 (writable_of r) ≡ true
unfolding writable_of rect_is_f32
writable_f32 r e = either (λ q. rect_is_f32 q ≡ true) (usable_of r) e (rw (bits_f32 0x7fc0_0000))

pub all_writable : (l : List Rect) → list_all rect_is_f32 l ≡ true → list_all rect_is_f32 (map writable_of l) ≡ true
all_writable [] e = refl
all_writable (r ∷ l) e = let b = both _ _ e in rw (writable_f32 r b.0, all_writable l b.1)

module _ (c : Cutouts) (h : c.count ≤ length c.at) where
  pub cutouts_counted : length (cutout_list c) ≡ c.count
  cutouts_counted = length-take-le c.count c.at h

  pub cutouts_listed : cutout_list (replaced_cutouts c) ≡ map plus_zero_rect (cutout_list c)
  unfolding replaced_cutouts
  cutouts_listed = take_at (map plus_zero_rect (cutout_list c)) (replicate (16 - c.count) empty_rect) c.count (length-map (cutout_list c) plus_zero_rect ∙ cutouts_counted)

-- the saved rectangles as they are written, but for negative zeros
abbrev pub listed : Preset → List Rect
listed p = map writable_of (saved_list p)

module _ (p : Preset) (h : p.count ≤ length p.elements) where
  pub counted : length (listed p) ≡ p.count
  counted = length-map (saved_list p) writable_of ∙ length-take-le p.count p.elements h

  pub saved_listed : saved_list (replaced_preset p) ≡ map plus_zero_rect (listed p)
  unfolding replaced_preset
  saved_listed =
      rw (← map-map plus_zero_rect writable_of (saved_list p))
      (take_at (map plus_zero_rect (listed p)) (replicate (32 - p.count) empty_rect) p.count (length-map (listed p) plus_zero_rect ∙ counted))

-- ---- tests and bytes do not see the sign of zero
max_same : (x : Float) → max_of (plus_zero x) k1 ≡ max_of x k1
unfolding max_of ne lt eq of_bits
max_same = zeros_same (λ z. max_of z k1) go
  where
    go : (s : Bool) (m : ℕ) (g : ℤ) → m * up g ≡ 0 → max_of k0 k1 ≡ max_of (fin s m g) k1
    go true m g h = rw (h, zero-mul (down g), lt-ltb 0 (0 + 1 * 1 * down g) (omega (arith, down_pos g)))
    go false m g h = rw (h, zero-mul (down g), lt-ltb 0 (1 * 1 * down g) (omega (arith, down_pos g)))

rects_field_same : (tag : ℕ) (l : List Rect) → rects_field tag (map plus_zero_rect l) ≡ rects_field tag l
rects_field_same tag l = rw (length-map l plus_zero_rect, rects_same l)

module _ (s : Settings) where
  picture_same : equal_of (plus_zero_rect s.picture) (screen_picture_of (plus_zero s.w) (plus_zero s.h)) ≡ equal_of s.picture (screen_picture_of s.w s.h)
  unfolding equal_of
  picture_same =
      let r = s.picture in
      rw (eq_same r.x k0, eq_same r.y k0, max_same s.w, max_same s.h, eq_same r.w (max_of s.w k1), eq_same r.h (max_of s.h k1))

  place_same : place_field (replaced_preset s.preset) ≡ place_field s.preset
  unfolding replaced_preset untouched_of
  place_same =
      let p = s.preset in
      rw (
        eq_same p.scale k1,
        eq_same p.offset.x k0_5,
        eq_same p.offset.y k0_5,
        number_same p.scale,
        number_same p.offset.x,
        number_same p.offset.y,
      )

  first_same : first_fields (replaced_of s) ≡ first_fields s
  unfolding replaced_of replaced_preset mode_byte_of
  first_same = rw (picture_same, number_same s.w, number_same s.h, rect_same s.picture)

  module _ (fit-arrays : Fitting s) where
    last_same : last_fields (replaced_of s).preset (cutout_list (replaced_of s).cutouts) (saved_list (replaced_of s).preset) ≡ last_fields s.preset (cutout_list s.cutouts) (listed s.preset)
    unfolding replaced_of
    last_same =
        rw (
          cutouts_listed s.cutouts fit-arrays.0,
          saved_listed s.preset fit-arrays.1,
          rects_field_same 6 (cutout_list s.cutouts),
          rects_field_same 7 (listed s.preset),
          place_same,
        )

    pub as_written : order_bytes s ≡ all_fields s (cutout_list s.cutouts) (listed s.preset)
    unfolding order_bytes fields_of
    as_written = rw (first_same, last_same)
