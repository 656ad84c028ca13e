-- What the reader says of any values, each in its field: their tests in tag order, and then the settings with them. So it refuses settings with the number of their first fault.
use mathlib.Core.Path.{◌≡◌, refl, ap, ◌∙◌}
use mathlib.Core.Bool.{Bool, true, false}
use mathlib.Core.List.{List, [], ◌∷◌, ◌++◌, flat_map, append-nil}
use Prim.Native.Nat.{ℕ}
use native.Mathlib.Omega.{arith}
use lib.Dec.{leb}
use lib.Ieee.{Float, binary32, fits}
use lib.ListN.{length}
use lib.Seq.{length-take-le}
use Rattle.prelude.specs.Answer.{Answer, accepted, refusal_of, must}
use Rattle.std.specs.List.{list_all}
use Rattle.geometry.specs.declared.Rect.{Rect}
use Rattle.geometry.specs.Rect.{rect_is_f32}
use Rattle.geometry.specs.declared.Offset.{Offset}
use Rattle.layout.specs.Layout.{cutout_list}
use Rattle.settings.specs.declared.Settings.{Settings}
use Rattle.settings.specs.Settings.{saved_list, absent_of, mode_byte_of, fit_byte_of, least, rect_in_limits_of, cutouts_in_limits_of, tested_of}
use Rattle.settings.specs.Settings.{first_fault_of, must_screen, must_picture, must_mode, must_fit, must_place, must_saved}
use Rattle.wire.specs.Wire.{number_bytes, rect_bytes, field_bytes}
use Rattle.reader.specs.Order.{fields, read_order_of}
use Rattle.written_order.specs.Promises.{every_field, RefusedAlike}
use Rattle.order_writer.proofs.FromNumbers.{tested_then}
use Rattle.written_order.proofs.Fields.{field_gives, field_tested}
use Rattle.written_order.proofs.Values.{screen_given, picture_given, mode_given, fit_given, place_given, cutouts_given, saved_given, mode_byte_lem}
use Rattle.written_order.proofs.Values.{fit_byte_lem, screen_given_lem, picture_given_lem, mode_given_lem, fit_given_lem, place_given_lem, cutouts_given_lem, saved_given_lem}

-- each number is a value of binary32
pub record EachF32 (a b : Float) (r : Rect) (c : Float) (o : Offset) (l m : List Rect) : Type 0 where
  pub w : fits binary32 a ≡ true
  pub h : fits binary32 b ≡ true
  pub picture : rect_is_f32 r ≡ true
  pub scale : fits binary32 c ≡ true
  pub across : fits binary32 o.x ≡ true
  pub down : fits binary32 o.y ≡ true
  pub cutouts : list_all rect_is_f32 l ≡ true
  pub saved : list_all rect_is_f32 m ≡ true

module _ (w h : Float) (picture : Rect) (mode fit : ℕ) (scale : Float) (offset : Offset) (cutouts saved : List Rect) where
  -- the settings after each field
  abbrev s1 : Settings
  s1 = screen_given absent_of w h

  abbrev s2 : Settings
  s2 = picture_given s1 picture

  abbrev s3 : Settings
  s3 = mode_given s2 mode

  abbrev s4 : Settings
  s4 = fit_given s3 fit

  abbrev s5 : Settings
  s5 = place_given s4 scale offset

  abbrev s6 : Settings
  s6 = cutouts_given s5 cutouts

  abbrev pub every_given : Settings
  every_given = saved_given s6 saved

  -- the tests from each field on
  abbrev tests6 : Answer Settings
  tests6 = must (leb (length cutouts) 16) 7 (must (list_all (rect_in_limits_of least) cutouts) 6 (must_saved (length saved) (accepted every_given)))

  abbrev tests4 : Answer Settings
  tests4 = must_fit fit (must_place scale offset tests6)

  abbrev pub every_answer : Answer Settings
  every_answer = must_screen w h (must_picture picture (must_mode mode tests4))

  -- the bytes from each field on
  abbrev from7 : List ℕ
  from7 = field_bytes 7 (flat_map rect_bytes saved) ++ []

  abbrev from6 : List ℕ
  from6 = field_bytes 6 (flat_map rect_bytes cutouts) ++ from7

  abbrev from5 : List ℕ
  from5 = field_bytes 5 (number_bytes scale ++ (number_bytes offset.x ++ number_bytes offset.y)) ++ from6

  abbrev from4 : List ℕ
  from4 = field_bytes 4 (fit ∷ []) ++ from5

  abbrev from3 : List ℕ
  from3 = field_bytes 3 (mode ∷ []) ++ from4

  abbrev from2 : List ℕ
  from2 = field_bytes 2 (rect_bytes picture) ++ from3

  module _ (f : EachF32 w h picture scale offset cutouts saved) where
    -- the last field: the bytes end
    read7 : fields 2 6 true s6 from7 ≡ must_saved (length saved) (accepted every_given)
    unfolding fields must
    read7 = field_tested 1 6 true s6 7 (flat_map rect_bytes saved) [] (omega arith) (omega arith) (leb (length saved) 32) 7 every_given (saved_given_lem s6 saved f.saved)

    read6 : fields 3 5 true s5 from6 ≡ tests6
    read6 =
        field_gives 2 5 true s5 6 (flat_map rect_bytes cutouts) from7 (omega arith) (omega arith) (cutouts_given_lem s5 cutouts f.cutouts)
        ∙ tested_then _ 7 _ _
        ∙ ap (must _ 7) (tested_then _ 6 _ _ ∙ ap (must _ 6) read7)

    read4 : fields 5 3 true s3 from4 ≡ tests4
    read4 =
        field_tested 4 3 true s3 4 (fit ∷ []) from5 (omega arith) (omega arith) _ 5 s4 (fit_given_lem s3 fit)
        ∙ ap (must _ 5) (field_tested 3 4 true s4 5 _ from6 (omega arith) (omega arith) _ 6 s5 (place_given_lem s4 scale offset f.scale f.across f.down) ∙ ap (must _ 6) read6)

    read2 : fields 7 1 true s1 from2 ≡ must_picture picture (must_mode mode tests4)
    read2 =
        field_tested 6 1 true s1 2 (rect_bytes picture) from3 (omega arith) (omega arith) _ 6 s2 (picture_given_lem s1 picture f.picture)
        ∙ ap (must _ 6) (field_tested 5 2 true s2 3 (mode ∷ []) from4 (omega arith) (omega arith) _ 5 s3 (mode_given_lem s2 mode) ∙ ap (must _ 5) read4)

    pub every_read : read_order_of (every_field w h picture mode fit scale offset cutouts saved) ≡ every_answer
    unfolding read_order_of every_field
    every_read =
        rw (← append-nil (field_bytes 7 (flat_map rect_bytes saved)))
        (field_tested 7 0 false absent_of 1 (number_bytes w ++ number_bytes h) from2 (omega arith) (omega arith) _ 6 s1 (screen_given_lem absent_of w h f.w f.h) ∙ ap (must _ 6) read2)

-- ---- settings

-- the number of a refusal does not turn on what is accepted
refused_same : (test : Bool) (n : ℕ) (x y : Answer Settings) → refusal_of x ≡ refusal_of y → refusal_of (must test n x) ≡ refusal_of (must test n y)
unfolding must
refused_same true n x y e = e
refused_same false n x y e = refl

pub refused_alike : RefusedAlike
unfolding first_fault_of tested_of cutouts_in_limits_of
refused_alike s f fit-arrays =
    let p = s.preset in
    let ok : EachF32 s.w s.h s.picture p.scale p.offset (cutout_list s.cutouts) (saved_list p) = record {
      w = f.w;
      h = f.h;
      picture = f.picture;
      scale = f.scale;
      across = f.across;
      down = f.down;
      cutouts = f.cutouts;
      saved = f.saved;
    } in
    rw (
      every_read s.w s.h s.picture (mode_byte_of p) (fit_byte_of p.fit) p.scale p.offset (cutout_list s.cutouts) (saved_list p) ok,
      (mode_byte_lem p).0,
      (fit_byte_lem p.fit).0,
      length-take-le s.cutouts.count s.cutouts.at fit-arrays.0,
      length-take-le p.count p.elements fit-arrays.1,
    )
    (refused_same _ 6 _ _ (refused_same _ 6 _ _ (refused_same _ 5 _ _ (refused_same _ 5 _ _ (refused_same _ 6 _ _ (refused_same _ 7 _ _ (refused_same _ 6 _ _ (refused_same _ 7 _ _ refl))))))))
