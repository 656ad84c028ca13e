-- Settings as numbers: their lists, which fit their arrays; their tests, those of the settings without lists and then those of the lists; their bytes.
use mathlib.Core.Path.{◌≡◌, refl, sym, ◌∙◌}
use mathlib.Core.Bool.{Bool, true, false}
use mathlib.Core.List.{List, [], map}
use Prim.Native.Nat.{ℕ, ◌-◌, ◌/◌}
use native.Mathlib.Omega.{arith}
use lib.Dec.{leb}
use lib.Ieee.{Float}
use lib.ListN.{length, replicate, length-append}
use lib.Seq.{take_at}
use Rattle.std.specs.List.{list_all}
use Rattle.prelude.specs.Answer.{Answer, accepted, refused, must, and_then}
use Rattle.prelude.specs.Lists.{tabulate}
use Rattle.geometry.specs.Rect.{empty_rect}
use Rattle.layout.specs.Layout.{cutout_list}
use Rattle.settings.specs.declared.Settings.{Settings}
use Rattle.settings.specs.Settings.{saved_list, mode_byte_of, untouched_of, least, rect_in_limits_of, cutouts_in_limits_of, tested_of, Fitting}
use Rattle.settings.specs.Settings.{must_screen, must_picture, must_mode, must_fit, must_place, must_saved}
use Rattle.order_writer.specs.OrderBytes.{writable_of, all_fields, order_bytes}
use Rattle.order_writer.specs.Numbers.{rects_in, settings_from}
use Rattle.order_writer.proofs.NumbersLaws.{length_rects}
use Rattle.order_writer.proofs.Replaced.{as_written}

-- a test comes before what follows it
pub tested_then : {A B : Type 0} (test : Bool) (n : ℕ) (a : Answer A) (f : A → Answer B) → and_then (must test n a) f ≡ must test n (and_then a f)
unfolding must
tested_then true n a f = refl
tested_then false n a f = refl

module _ (numbers : List Float) (mode fit : ℕ) (cutouts saved : List Float) where
  abbrev pub whole : Settings
  whole = settings_from numbers mode fit cutouts saved

  abbrev pub bare : Settings
  bare = settings_from numbers mode fit [] []

  -- ---- the lists
  cutouts_in : cutout_list whole.cutouts ≡ rects_in cutouts
  unfolding settings_from
  cutouts_in = take_at (rects_in cutouts) (replicate (16 - length cutouts / 4) empty_rect) (length cutouts / 4) (length_rects cutouts)

  saved_in : saved_list whole.preset ≡ rects_in saved
  unfolding settings_from
  saved_in = take_at (rects_in saved) (replicate (32 - length saved / 4) empty_rect) (length saved / 4) (length_rects saved)

  fitting : Fitting whole
  unfolding settings_from
  fitting = (
    rw (length-append, length_rects) (omega arith),
    rw (length-append, length_rects) (omega arith),
  )

  -- ---- the tests
  bare_tested : tested_of mode fit bare
      ≡ must_screen bare.w bare.h (must_picture bare.picture (must_mode mode (must_fit fit (must_place bare.preset.scale bare.preset.offset (accepted bare)))))
  unfolding tested_of settings_from must cutouts_in_limits_of rects_in tabulate
  bare_tested = refl

  whole_tested : tested_of mode fit whole
      ≡ must_screen bare.w bare.h (must_picture bare.picture (must_mode mode (must_fit fit (must_place bare.preset.scale bare.preset.offset
      (must (leb (length cutouts / 4) 16) 7 (must (list_all (rect_in_limits_of least) (rects_in cutouts)) 6 (must_saved (length saved / 4) (accepted whole))))))))
  unfolding tested_of settings_from cutouts_in_limits_of
  whole_tested = rw cutouts_in

  pub lists_tested : tested_of mode fit whole
      ≡ and_then (tested_of mode fit bare) (λ _.
      must (leb (length cutouts / 4) 16) 7 (must (list_all (rect_in_limits_of least) (rects_in cutouts)) 6 (must_saved (length saved / 4) (accepted whole))))
  lists_tested = rw (whole_tested, bare_tested) (simp tested_then)

  -- ---- the bytes
  pub numbers_written : order_bytes whole ≡ all_fields bare (rects_in cutouts) (map writable_of (rects_in saved))
  unfolding settings_from mode_byte_of untouched_of
  numbers_written = rw (as_written whole fitting, cutouts_in, saved_in)
