-- Written settings read back, with the two replacements; so settings that differ after them get different bytes.
use mathlib.Core.Path.{◌≡◌, refl, ap, sym, ◌∙◌}
use mathlib.Core.Bool.{true, false}
use mathlib.Core.List.{List, [], ◌∷◌, ◌++◌, map, map-map, flat_map, append-nil, append_assoc}
use Prim.Native.Nat.{ℕ, suc, ◌≤◌}
use native.Mathlib.Omega.{arith}
use borrow.Author.Tests.{eqb-true}
use lib.Dec.{eqb, leb}
use lib.Ieee.{Float}
use lib.ListN.{length, length-map}
use lib.Seq.{length-take-le}
use Rattle.prelude.specs.Answer.{accepted}
use Rattle.prelude.specs.Lists.{is_empty}
use Rattle.geometry.specs.declared.Rect.{Rect}
use Rattle.geometry.specs.declared.Offset.{Offset}
use Rattle.geometry.specs.Offset.{centred}
use Rattle.layout.specs.Layout.{cutout_list}
use Rattle.settings.specs.declared.Preset.{Preset}
use Rattle.settings.specs.declared.Settings.{Settings}
use Rattle.settings.specs.Settings.{saved_list, default_of, absent_of, with_place, with_picture, with_preset, screen_picture_of, has_bit, mode_byte_of}
use Rattle.settings.specs.Settings.{fit_mark_of, fit_byte_of, untouched_of, cutouts_in_limits_of, IsF32, Fitting}
use Rattle.settings.proofs.Accepted.{Accepted, accepted_parts}
use Rattle.wire.specs.Wire.{number_bytes, rect_bytes, plus_zero, plus_zero_rect}
use Rattle.wire.proofs.PlusZero.{number_same, rect_same, rects_same}
use Rattle.reader.specs.Order.{from_byte_of, read_field_of, read_order_of}
use Rattle.order_writer.specs.OrderBytes.{writable_of, replaced_preset, replaced_cutouts, replaced_of, screen_field, equal_of}
use Rattle.order_writer.specs.OrderBytes.{picture_field, byte_field, place_field, rects_field, fields_of, order_bytes}
use Rattle.order_writer.proofs.Replaced.{all_writable, cutouts_listed, listed, counted, saved_listed}
use Rattle.written_order.specs.Promises.{ReadsBack, Injective, SameBytes}
use Rattle.written_order.proofs.Fields.{passed, field_gives, Ends, ends, ends_field}
use Rattle.written_order.proofs.Values.{plus_zero_offset, screen_given, picture_given, mode_given, fit_given, place_given, cutouts_given, saved_given}
use Rattle.written_order.proofs.Values.{mode_byte_lem, fit_byte_lem, screen_given_lem, picture_given_lem, mode_given_lem, fit_given_lem, place_given_lem, cutouts_given_lem, saved_given_lem}
use Rattle.written_order.proofs.LeftOut.{picture_left_out, place_left_out, empty_list}

-- ---- what may be left out, by what its absence means
module _ (k : ℕ) {s t : Settings} (small : k ≤ 7) (rest : List ℕ) where
  ends_byte : (next : ℕ → Settings) (absent b : ℕ) → next absent ≡ s → read_field_of (from_byte_of k) (b ∷ []) s ≡ accepted (next b)
      → Ends (suc k) (next b) t rest → Ends k s t (byte_field absent k b ++ rest)
  ends_byte next absent b e reads on = ends_field k (eqb b absent) (b ∷ []) rest small (λ z. ap next (eqb-true b absent z) ∙ e) reads on

  ends_rects : (next : List Rect → Settings) (l : List Rect) → next [] ≡ s → read_field_of (from_byte_of k) (flat_map rect_bytes l) s ≡ accepted (next l)
      → Ends (suc k) (next l) t rest → Ends k s t (rects_field k (map plus_zero_rect l) ++ rest)
  ends_rects next l e reads on =
      rw (rects_same l, length-map l plus_zero_rect) (ends_field k (is_empty l) (flat_map rect_bytes l) rest small (λ z. ap next (empty_list l z) ∙ e) reads on)

module _ (s : Settings) (f : IsF32 s) (a : Accepted s) (fit-arrays : Fitting s) where
  abbrev w : Float
  w = plus_zero s.w

  abbrev h : Float
  h = plus_zero s.h

  abbrev p : Preset
  p = s.preset

  abbrev cut : List Rect
  cut = cutout_list s.cutouts

  abbrev saved : List Rect
  saved = listed p

  abbrev placed : Preset
  placed = with_place p (plus_zero p.scale) (plus_zero_offset p.offset)

  -- the settings after each field
  abbrev s1 : Settings
  s1 = screen_given absent_of s.w s.h

  abbrev s2 : Settings
  s2 = picture_given s1 s.picture

  abbrev s3 : Settings
  s3 = mode_given s2 (mode_byte_of p)

  abbrev s4 : Settings
  s4 = fit_given s3 (fit_byte_of p.fit)

  abbrev s5 : Settings
  s5 = place_given s4 p.scale p.offset

  abbrev s6 : Settings
  s6 = cutouts_given s5 cut

  abbrev s7 : Settings
  s7 = saved_given s6 saved

  all_given : s7 ≡ replaced_of s
  unfolding absent_of default_of replaced_of replaced_preset replaced_cutouts
  all_given =
      let m = mode_byte_lem p in
      rw (m.1, m.2, m.3, (fit_byte_lem p.fit).1, counted p fit-arrays.1, map-map plus_zero_rect writable_of (saved_list p), length-take-le s.cutouts.count s.cutouts.at fit-arrays.0)

  -- the bytes from each field on
  abbrev from7 : List ℕ
  from7 = rects_field 7 (map plus_zero_rect saved) ++ []

  abbrev from6 : List ℕ
  from6 = rects_field 6 (map plus_zero_rect cut) ++ from7

  abbrev from5 : List ℕ
  from5 = place_field placed ++ from6

  abbrev from4 : List ℕ
  from4 = byte_field (fit_byte_of default_of.fit) 4 (fit_byte_of p.fit) ++ from5

  abbrev from3 : List ℕ
  from3 = byte_field (mode_byte_of default_of) 3 (mode_byte_of p) ++ from4

  abbrev from2 : List ℕ
  from2 = picture_field w h (plus_zero_rect s.picture) ++ from3

  all_bytes : order_bytes s ≡ screen_field w h ++ from2
  unfolding order_bytes fields_of replaced_of replaced_preset mode_byte_of untouched_of
  all_bytes = rw (cutouts_listed s.cutouts fit-arrays.0, saved_listed p fit-arrays.1, append-nil) (simp append_assoc)

  -- field by field, from the last
  ends7 : Ends 7 s6 s7 from7
  unfolding absent_of default_of
  ends7 =
      let few : leb (length saved) 32 ≡ true = rw (counted p fit-arrays.1) a.few_saved in
      let ok = all_writable (saved_list p) f.saved in
      ends_rects 7 (omega arith) [] (saved_given s6) saved refl (saved_given_lem s6 saved ok ∙ passed _ 7 _ few) (ends s7)

  ends6 : Ends 6 s5 s7 from6
  unfolding absent_of cutouts_in_limits_of
  ends6 =
      let few : leb (length cut) 16 ≡ true = rw (length-take-le s.cutouts.count s.cutouts.at fit-arrays.0) a.few_cutouts in
      ends_rects 6 (omega arith) from7 (cutouts_given s5) cut refl (cutouts_given_lem s5 cut f.cutouts ∙ passed _ 7 _ few ∙ passed _ 6 _ a.cutouts) ends7

  no_place : untouched_of placed ≡ true → s5 ≡ s4
  unfolding absent_of default_of untouched_of
  no_place e =
      let c = place_left_out p.scale p.offset f.scale f.across f.down e in
      let at : Float → Offset → Settings = λ scale offset. with_preset s4 (with_place s4.preset scale offset) in
      ap (at placed.scale) c.1 ∙ ap (λ x. at x centred) c.0

  ends5 : Ends 5 s4 s7 from5
  ends5 =
      ends_field 5 (untouched_of placed) (number_bytes placed.scale ++ (number_bytes placed.offset.x ++ number_bytes placed.offset.y)) from6 (omega arith) no_place
      (rw (number_same p.scale, number_same p.offset.x, number_same p.offset.y)
      (place_given_lem s4 p.scale p.offset f.scale f.across f.down ∙ passed _ 6 _ a.place))
      ends6

  no_fit : fit_given s3 (fit_byte_of default_of.fit) ≡ s3
  unfolding absent_of default_of fit_byte_of fit_mark_of
  no_fit = refl

  ends4 : Ends 4 s3 s7 from4
  ends4 =
      let b = fit_byte_of p.fit in
      ends_byte 4 (omega arith) from5 (fit_given s3) (fit_byte_of default_of.fit) b no_fit (fit_given_lem s3 b ∙ passed _ 5 _ (fit_byte_lem p.fit).0) ends5

  no_mode : mode_given s2 (mode_byte_of default_of) ≡ s2
  unfolding absent_of default_of mode_byte_of has_bit
  no_mode = refl

  ends3 : Ends 3 s2 s7 from3
  ends3 =
      let b = mode_byte_of p in
      ends_byte 3 (omega arith) from4 (mode_given s2) (mode_byte_of default_of) b no_mode (mode_given_lem s2 b ∙ passed _ 5 _ (mode_byte_lem p).0) ends4

  ends2 : Ends 2 s1 s7 from2
  ends2 =
      ends_field 2 (equal_of (plus_zero_rect s.picture) (screen_picture_of w h)) (rect_bytes (plus_zero_rect s.picture)) from3 (omega arith)
      (λ e. ap (with_picture s1) (picture_left_out s.w s.h f.w f.h s.picture f.picture e))
      (rw (rect_same s.picture) (picture_given_lem s1 s.picture f.picture ∙ passed _ 6 _ a.picture))
      ends3

  screen_read : read_field_of (from_byte_of 1) (number_bytes w ++ number_bytes h) absent_of ≡ accepted s1
  screen_read = rw (number_same s.w, number_same s.h) (screen_given_lem absent_of s.w s.h f.w f.h ∙ passed _ 6 _ a.screen)

  read_back : read_order_of (order_bytes s) ≡ accepted (replaced_of s)
  unfolding read_order_of
  read_back =
      rw (all_bytes, ← all_given)
      (field_gives 7 0 false absent_of 1 (number_bytes w ++ number_bytes h) from2 (omega arith) (omega arith) screen_read ∙ ends2 7 1 (omega arith) (omega arith))

-- ---- the promises
pub reads_back : ReadsBack
reads_back s f fit-arrays e = read_back s f (accepted_parts s e) fit-arrays

pub injective : Injective
injective s t f g u v a b e = same_accepted (sym (reads_back s f u a) ∙ ap read_order_of e ∙ reads_back t g v b)
  where
    same_accepted : {x y : Settings} → accepted x ≡ accepted y → x ≡ y
    same_accepted h = cc

pub same_bytes : SameBytes
unfolding order_bytes
same_bytes s t e = ap fields_of e
