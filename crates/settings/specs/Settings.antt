-- The settings of an order, their limits, and `Preset::picture_fit` of input.rs.
use Rattle.std.specs.Prelude.{◌≡◌, Bool, true, false, ◌&&◌, cond, List, ℕ, ◌+◌, ◌/◌, ◌%◌, ◌^◌, ◌≤◌, eqb, leb, Float, length, take, replicate, Option, Some, None, unwrap_or}
use Rattle.std.specs.Float.{binary32}
use Rattle.std.specs.Float.Ieee.{fits, le, eq, neg}
use Rattle.prelude.specs.Answer.{Answer, accepted, refusal_of, must}
use Rattle.std.specs.List.{list_all}
use Rattle.float.specs.Float.{k0, k0_5, k1, k8192}
use Rattle.float.specs.MinMax.{max_of, is_finite_of}
use Rattle.geometry.specs.declared.Rect.{Rect}
use Rattle.geometry.specs.Rect.{new_of, empty_rect, rect_is_f32}
use Rattle.geometry.specs.declared.Offset.{Offset}
use Rattle.geometry.specs.Offset.{centred}
use Rattle.layout.specs.declared.Cutouts.{Cutouts}
use Rattle.layout.specs.Layout.{cutout_list}
use Rattle.settings.specs.declared.PictureFit.{PictureFit}
use Rattle.settings.specs.declared.PictureFit.TheVariants.{Maximum, KeepClear}
use Rattle.settings.specs.declared.Preset.{Preset}
use Rattle.settings.specs.declared.Settings.{Settings}

-- the list that `elements` and `count` stand for
abbrev pub saved_list : Preset → List Rect
saved_list p = take p.count p.elements

-- `Preset::default()`
unfoldable pub default_of : Preset
default_of = record {
  psp = false;
  analog = false;
  overlap = false;
  fit = Some Maximum;
  scale = k1;
  offset = centred;
  elements = replicate 32 empty_rect;
  count = 0;
}

-- document 01's values for absent fields
unfoldable pub absent_of : Settings
absent_of = record {
  w = k0;
  h = k0;
  picture = empty_rect;
  preset = default_of;
  cutouts = record { at = replicate 16 empty_rect; count = 0 };
}

-- ---- a preset, and settings, made anew with other values in some fields
abbrev pub with_mode : Preset → Bool → Bool → Bool → Preset
with_mode p psp analog overlap = record {
  psp = psp;
  analog = analog;
  overlap = overlap;
  fit = p.fit;
  scale = p.scale;
  offset = p.offset;
  elements = p.elements;
  count = p.count;
}

abbrev pub with_fit : Preset → Option PictureFit → Preset
with_fit p fit = record {
  psp = p.psp;
  analog = p.analog;
  overlap = p.overlap;
  fit = fit;
  scale = p.scale;
  offset = p.offset;
  elements = p.elements;
  count = p.count;
}

abbrev pub with_place : Preset → Float → Offset → Preset
with_place p scale offset = record {
  psp = p.psp;
  analog = p.analog;
  overlap = p.overlap;
  fit = p.fit;
  scale = scale;
  offset = offset;
  elements = p.elements;
  count = p.count;
}

-- the first `count` of `elements` saved
abbrev pub with_elements : Preset → List Rect → ℕ → Preset
with_elements p elements count = record {
  psp = p.psp;
  analog = p.analog;
  overlap = p.overlap;
  fit = p.fit;
  scale = p.scale;
  offset = p.offset;
  elements = elements;
  count = count;
}

-- the screen, and the picture that comes with it
abbrev pub with_screen : Settings → Float → Float → Rect → Settings
with_screen s w h picture = record {
  w = w;
  h = h;
  picture = picture;
  preset = s.preset;
  cutouts = s.cutouts;
}

abbrev pub with_picture : Settings → Rect → Settings
with_picture s picture = with_screen s s.w s.h picture

abbrev pub with_preset : Settings → Preset → Settings
with_preset s preset = record {
  w = s.w;
  h = s.h;
  picture = s.picture;
  preset = preset;
  cutouts = s.cutouts;
}

abbrev pub with_cutouts : Settings → Cutouts → Settings
with_cutouts s cutouts = record {
  w = s.w;
  h = s.h;
  picture = s.picture;
  preset = s.preset;
  cutouts = cutouts;
}

-- ---- what an absent picture means: the screen, raised to at least 1 by 1
abbrev pub screen_picture_of : Float → Float → Rect
screen_picture_of w h = new_of k0 k0 (max_of w k1) (max_of h k1)

-- ---- the byte of tag 3
-- bit i of a byte is set
unfoldable pub has_bit : ℕ → ℕ → Bool
has_bit b i = eqb (b / 2 ^ i % 2) 1

-- bit 0 psp, bit 1 analog, bit 2 allow_overlap
abbrev pub with_mode_byte : Preset → ℕ → Preset
with_mode_byte p b = with_mode p (has_bit b 0) (has_bit b 1) (has_bit b 2)

unfoldable pub mode_byte_of : Preset → ℕ
mode_byte_of p = cond p.psp 1 0 + cond p.analog 2 0 + cond p.overlap 4 0

-- ---- the fit; none where it is unset
-- of a byte up to 2
unfoldable pub fit_mark_of : ℕ → Option PictureFit
fit_mark_of b = cond (eqb b 0) None (cond (eqb b 1) (Some Maximum) (Some KeepClear))

unfoldable pub fit_byte_of : Option PictureFit → ℕ
fit_byte_of None = 0
fit_byte_of (Some Maximum) = 1
fit_byte_of (Some KeepClear) = 2

-- the game at its whole size, in the middle
unfoldable pub untouched_of : Preset → Bool
untouched_of p = eq p.scale k1 && (eq p.offset.x k0_5 && eq p.offset.y k0_5)

-- A profile from before fits were kept is unset; where its game was sized or moved, that stays so.
unfoldable pub picture_fit_of : Preset → PictureFit
picture_fit_of p = unwrap_or p.fit (cond (untouched_of p) Maximum KeepClear)

-- ---- a saved rectangle counts if its numbers are finite
unfoldable pub usable_of : Rect → Bool
usable_of r = is_finite_of r.x && (is_finite_of r.y && (is_finite_of r.w && is_finite_of r.h))

-- ---- document 01's limits of the numbers in tags 1, 2, 5 and 6, and of the tops
abbrev pub least : Float
least = neg k8192

-- from low to 8,192; no NaN
unfoldable pub in_limits_of : Float → Float → Bool
in_limits_of low x = le low x && le x k8192

unfoldable pub screen_in_limits_of : Float → Float → Bool
screen_in_limits_of w h = in_limits_of k0 w && in_limits_of k0 h

-- a rectangle whose w and h are at least low
unfoldable pub rect_in_limits_of : Float → Rect → Bool
rect_in_limits_of low r =
    in_limits_of least r.x && (in_limits_of least r.y && (in_limits_of low r.w && in_limits_of low r.h))

unfoldable pub place_in_limits_of : Float → Offset → Bool
place_in_limits_of scale offset =
    in_limits_of least scale && (in_limits_of least offset.x && in_limits_of least offset.y)

unfoldable pub cutouts_in_limits_of : Cutouts → Bool
cutouts_in_limits_of c = list_all (rect_in_limits_of least) (cutout_list c)

-- the tops of `PlayerViewport`: the height above the picture that may be reused, and the height that is covered for a while
unfoldable pub tops_in_limits_of : Float → Float → Bool
tops_in_limits_of reusable covered = in_limits_of k0 reusable && in_limits_of least covered

-- ---- the tests of each field, for whoever reads or writes it: an answer, or 5 odd mark, 6 off the scale, 7 overfull
module _ {A : Type 0} where
  abbrev pub must_screen : Float → Float → Answer A → Answer A
  must_screen w h a = must (screen_in_limits_of w h) 6 a

  abbrev pub must_picture : Rect → Answer A → Answer A
  must_picture r a = must (rect_in_limits_of k0 r) 6 a

  -- bits 3 to 7 of the byte are zero
  abbrev pub must_mode : ℕ → Answer A → Answer A
  must_mode b a = must (eqb (b / 2 ^ 3) 0) 5 a

  abbrev pub must_fit : ℕ → Answer A → Answer A
  must_fit b a = must (leb b 2) 5 a

  abbrev pub must_place : Float → Offset → Answer A → Answer A
  must_place scale offset a = must (place_in_limits_of scale offset) 6 a

  abbrev pub must_cutouts : Cutouts → Answer A → Answer A
  must_cutouts c a = must (leb c.count 16) 7 (must (cutouts_in_limits_of c) 6 a)

  -- as many saved rectangles, of any f32
  abbrev pub must_saved : ℕ → Answer A → Answer A
  must_saved n a = must (leb n 32) 7 a

-- settings, tested in tag order; mode and fit are looked at as the bytes that they came from
unfoldable pub tested_of : ℕ → ℕ → Settings → Answer Settings
tested_of mode fit s =
    must_screen s.w s.h
    (must_picture s.picture
    (must_mode mode
    (must_fit fit
    (must_place s.preset.scale s.preset.offset
    (must_cutouts s.cutouts
    (must_saved s.preset.count
    (accepted s)))))))

-- the number of the first fault, 0 for none
unfoldable pub first_fault_of : ℕ → ℕ → Settings → ℕ
first_fault_of mode fit s = refusal_of (tested_of mode fit s)

-- the settings that an order may give; flags and an enum have no odd marks
unfoldable pub accepted_of : Settings → Bool
accepted_of s = eqb (first_fault_of 0 0 s) 0

-- ---- each number is a value of binary32, as the f32 of a program are
pub record IsF32 (s : Settings) : Type 0 where
  pub w : fits binary32 s.w ≡ true
  pub h : fits binary32 s.h ≡ true
  pub picture : rect_is_f32 s.picture ≡ true
  pub scale : fits binary32 s.preset.scale ≡ true
  pub across : fits binary32 s.preset.offset.x ≡ true
  pub down : fits binary32 s.preset.offset.y ≡ true
  pub cutouts : list_all rect_is_f32 (cutout_list s.cutouts) ≡ true
  pub saved : list_all rect_is_f32 (saved_list s.preset) ≡ true

-- ---- the lists fit their arrays, as those of accepted settings in a program do
abbrev pub Fitting : Settings → Type 0
Fitting s = (s.cutouts.count ≤ length s.cutouts.at) × (s.preset.count ≤ length s.preset.elements)
