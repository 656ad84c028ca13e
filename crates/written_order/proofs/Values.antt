-- What a field that is written gives when it is read: the tests of its numbers as they were, and settings with those numbers, plus zeros for negative ones.
use mathlib.Core.Path.{◌≡◌, refl}
use mathlib.Core.Bool.{Bool, true, false, cond}
use mathlib.Core.List.{List, [], ◌∷◌, ◌++◌, map, flat_map, append-nil}
use Prim.Native.Nat.{ℕ, ◌+◌, ◌-◌, ◌/◌, ◌%◌, ◌^◌}
use native.Mathlib.Omega.{arith}
use lib.Dec.{eqb, leb}
use lib.Ieee.{Float, binary32, of_bits, fits, lt, le, eq, neg}
use lib.ListN.{length, replicate, length-append, length-map}
use lib.Seq.{take_at}
use Rattle.std.specs.Prelude.{Option, Some, None}
use Rattle.prelude.specs.Answer.{accepted, must}
use Rattle.prelude.specs.Each.{Each}
use Rattle.std.specs.List.{list_all}
use Rattle.prelude.proofs.Booleans.{both}
use Rattle.prelude.proofs.EachLaws.{all_each}
use Rattle.float.specs.Float.{k0}
use Rattle.geometry.specs.declared.Rect.{Rect}
use Rattle.geometry.specs.Rect.{empty_rect, rect_array, rect_is_f32}
use Rattle.geometry.specs.declared.Offset.{Offset}
use Rattle.settings.specs.declared.PictureFit.{PictureFit}
use Rattle.settings.specs.declared.PictureFit.TheVariants.{Maximum, KeepClear}
use Rattle.settings.specs.declared.Preset.{Preset}
use Rattle.settings.specs.declared.Settings.{Settings}
use Rattle.settings.specs.Settings.{with_fit, with_place, with_elements, with_screen, with_picture, with_preset, with_cutouts, screen_picture_of, has_bit}
use Rattle.settings.specs.Settings.{with_mode_byte, mode_byte_of, fit_mark_of, fit_byte_of, least, in_limits_of, screen_in_limits_of, rect_in_limits_of, place_in_limits_of}
use Rattle.settings.specs.Settings.{cutouts_in_limits_of, must_screen, must_picture, must_mode, must_fit, must_place, must_saved}
use Rattle.wire.specs.Wire.{number_at_of, number_bytes, rect_bytes, filled, plus_zero, plus_zero_rect}
use Rattle.wire.proofs.Items.{length_f32, length_rect, length_items}
use Rattle.wire.proofs.ReadBack.{number_back, number_next, rect_back, rects_back}
use Rattle.wire.proofs.PlusZero.{plus_zero_same}
use Rattle.reader.specs.Order.{read_screen_of, read_picture_of, read_mode_of, read_fit_of, read_place_of, read_cutouts_of, read_saved_of, from_byte_of, read_field_of}

abbrev pub plus_zero_offset : Offset → Offset
plus_zero_offset o = record { x = plus_zero o.x; y = plus_zero o.y }

-- ---- settings with what a field gives
module _ (s : Settings) where
  abbrev pub screen_given : Float → Float → Settings
  screen_given w h = with_screen s (plus_zero w) (plus_zero h) (screen_picture_of (plus_zero w) (plus_zero h))

  abbrev pub picture_given : Rect → Settings
  picture_given r = with_picture s (plus_zero_rect r)

  abbrev pub mode_given : ℕ → Settings
  mode_given b = with_preset s (with_mode_byte s.preset b)

  abbrev pub fit_given : ℕ → Settings
  fit_given b = with_preset s (with_fit s.preset (fit_mark_of b))

  abbrev pub place_given : Float → Offset → Settings
  place_given scale offset = with_preset s (with_place s.preset (plus_zero scale) (plus_zero_offset offset))

  abbrev pub cutouts_given : List Rect → Settings
  cutouts_given l = with_cutouts s (record { at = rect_array 16 (length l) (map plus_zero_rect l); count = length l })

  abbrev pub saved_given : List Rect → Settings
  saved_given l = with_preset s (with_elements s.preset (rect_array 32 (length l) (map plus_zero_rect l)) (length l))

-- ---- a test of each element that is as it was
all_map_same : {A : Type 0} (C : A → Type 0) (p : A → Bool) (f : A → A) → ((x : A) → C x → p (f x) ≡ p x) → (l : List A) → Each C l → list_all p (map f l) ≡ list_all p l
all_map_same C p f h [] e = refl
all_map_same C p f h (x ∷ l) e = rw (h x e.0, all_map_same C p f h l e.1)

-- ---- no limit sees the sign of zero
positive_same : (x : Float) → fits binary32 x ≡ true → in_limits_of k0 (plus_zero x) ≡ in_limits_of k0 x
unfolding in_limits_of le lt eq of_bits
positive_same x f = plus_zero_same (in_limits_of k0) refl x f

signed_same : (x : Float) → fits binary32 x ≡ true → in_limits_of least (plus_zero x) ≡ in_limits_of least x
unfolding in_limits_of le lt eq neg of_bits
signed_same x f = plus_zero_same (in_limits_of least) refl x f

rect_limits_same : (low : Float) → ((x : Float) → fits binary32 x ≡ true → in_limits_of low (plus_zero x) ≡ in_limits_of low x)
    → (r : Rect) → rect_is_f32 r ≡ true → rect_in_limits_of low (plus_zero_rect r) ≡ rect_in_limits_of low r
unfolding rect_in_limits_of rect_is_f32
rect_limits_same low same r e =
    let a = both _ _ e in
    let b = both _ _ a.1 in
    let c = both _ _ b.1 in
    rw (signed_same r.x a.0, signed_same r.y b.0, same r.w c.0, same r.h c.1)

-- ---- marks as bytes pass their tests, and give the marks back
pub mode_byte_lem : (p : Preset) → let b = mode_byte_of p in (eqb (b / 2 ^ 3) 0 ≡ true) × (has_bit b 0 ≡ p.psp) × (has_bit b 1 ≡ p.analog) × (has_bit b 2 ≡ p.overlap)
unfolding mode_byte_of has_bit
mode_byte_lem p = go p.psp p.analog p.overlap
  where
    go : (x y z : Bool) → let b = cond x 1 0 + cond y 2 0 + cond z 4 0 in (eqb (b / 2 ^ 3) 0 ≡ true) × (has_bit b 0 ≡ x) × (has_bit b 1 ≡ y) × (has_bit b 2 ≡ z)
    go true true true = (refl, refl, refl, refl)
    go true true false = (refl, refl, refl, refl)
    go true false true = (refl, refl, refl, refl)
    go true false false = (refl, refl, refl, refl)
    go false true true = (refl, refl, refl, refl)
    go false true false = (refl, refl, refl, refl)
    go false false true = (refl, refl, refl, refl)
    go false false false = (refl, refl, refl, refl)

pub fit_byte_lem : (f : Option PictureFit) → (leb (fit_byte_of f) 2 ≡ true) × (fit_mark_of (fit_byte_of f) ≡ f)
unfolding fit_byte_of fit_mark_of
fit_byte_lem None = (refl, refl)
fit_byte_lem (Some Maximum) = (refl, refl)
fit_byte_lem (Some KeepClear) = (refl, refl)

-- ---- the last number, and the rectangles of a value
number_last : (x : Float) → fits binary32 x ≡ true → number_at_of (number_bytes x) 0 ≡ plus_zero x
number_last x f = rw (append-nil (number_bytes x)) at (number_back x [] f)

module _ (l : List Rect) where
  abbrev n : ℕ
  n = length (flat_map rect_bytes l)

  whole : n % 16 ≡ 0
  whole = omega (arith, length_items rect_bytes 16 length_rect l)

  counted : n / 16 ≡ length l
  counted = omega (arith, length_items rect_bytes 16 length_rect l)

-- ---- the seven fields
module _ (s : Settings) where
  module _ (w h : Float) (p : fits binary32 w ≡ true) (q : fits binary32 h ≡ true) where
    pub screen_given_lem : read_field_of (from_byte_of 1) (number_bytes w ++ number_bytes h) s ≡ must_screen w h (accepted (screen_given s w h))
    unfolding read_field_of from_byte_of read_screen_of screen_in_limits_of must
    screen_given_lem =
        let n : length (number_bytes w ++ number_bytes h) ≡ 8 = rw (length-append (number_bytes w) (number_bytes h), length_f32 w, length_f32 h) in
        rw (n, number_back w (number_bytes h) p, number_next w (number_bytes h) 0, number_last h q, positive_same w p, positive_same h q)

  pub picture_given_lem : (r : Rect) → rect_is_f32 r ≡ true → read_field_of (from_byte_of 2) (rect_bytes r) s ≡ must_picture r (accepted (picture_given s r))
  unfolding read_field_of from_byte_of read_picture_of must
  picture_given_lem r f =
      let e = append-nil (rect_bytes r) in
      let back = rw e at (rect_back r [] f) in
      rw (back, length_rect r, rect_limits_same k0 positive_same r f)

  pub mode_given_lem : (b : ℕ) → read_field_of (from_byte_of 3) (b ∷ []) s ≡ must_mode b (accepted (mode_given s b))
  unfolding read_field_of from_byte_of read_mode_of must
  mode_given_lem b = refl

  pub fit_given_lem : (b : ℕ) → read_field_of (from_byte_of 4) (b ∷ []) s ≡ must_fit b (accepted (fit_given s b))
  unfolding read_field_of from_byte_of read_fit_of must
  fit_given_lem b = refl

  module _ (scale : Float) (offset : Offset) (p : fits binary32 scale ≡ true) (q : fits binary32 offset.x ≡ true) (r : fits binary32 offset.y ≡ true) where
    pub place_given_lem : read_field_of (from_byte_of 5) (number_bytes scale ++ (number_bytes offset.x ++ number_bytes offset.y)) s
        ≡ must_place scale offset (accepted (place_given s scale offset))
    unfolding read_field_of from_byte_of read_place_of place_in_limits_of must
    place_given_lem =
        let a = number_bytes scale in
        let b = number_bytes offset.x in
        let c = number_bytes offset.y in
        let n : length (a ++ (b ++ c)) ≡ 12 = rw (length-append a (b ++ c), length-append b c, length_f32 scale, length_f32 offset.x, length_f32 offset.y) in
        rw (
          n,
          number_back scale (b ++ c) p,
          number_next scale (b ++ c) 0,
          number_back offset.x c q,
          number_next scale (b ++ c) 1,
          number_next offset.x c 0,
          number_last offset.y r,
          signed_same scale p,
          signed_same offset.x q,
          signed_same offset.y r,
        )

  module _ (l : List Rect) (f : list_all rect_is_f32 l ≡ true) where
    pub cutouts_given_lem : read_field_of (from_byte_of 6) (flat_map rect_bytes l) s
        ≡ must (leb (length l) 16) 7 (must (list_all (rect_in_limits_of least) l) 6 (accepted (cutouts_given s l)))
    unfolding read_field_of from_byte_of read_cutouts_of cutouts_in_limits_of filled must
    cutouts_given_lem =
        let each = all_each rect_is_f32 l f in
        rw (
          whole l,
          counted l,
          rects_back l each,
          take_at (map plus_zero_rect l) (replicate (16 - length l) empty_rect) (length l) (length-map l plus_zero_rect),
          all_map_same (λ r. rect_is_f32 r ≡ true) (rect_in_limits_of least) plus_zero_rect (rect_limits_same least signed_same) l each,
        )

    pub saved_given_lem : read_field_of (from_byte_of 7) (flat_map rect_bytes l) s ≡ must_saved (length l) (accepted (saved_given s l))
    unfolding read_field_of from_byte_of read_saved_of filled must
    saved_given_lem = rw (whole l, counted l, rects_back l (all_each rect_is_f32 l f))
