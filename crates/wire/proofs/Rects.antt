-- The numbers of a value, of its rectangles and of an array filled with them are values of binary32.
use mathlib.Core.Path.{◌≡◌, refl}
use mathlib.Core.Bool.{true}
use mathlib.Core.List.{List}
use Prim.Native.Nat.{ℕ, zero, suc, ◌+◌, ◌-◌, ◌*◌}
use lib.Ieee.{binary32, of_bits, fits}
use lib.Ieee.Bits.{is_true, of_bits-fits}
use lib.ListN.{take, replicate}
use lib.Seq.{take_at}
use Rattle.std.specs.List.{list_all}
use Rattle.prelude.specs.Lists.{tabulate}
use Rattle.prelude.proofs.ListLaws.{all_snoc, length_tabulate}
use Rattle.geometry.specs.Rect.{empty_rect, rect_is_f32}
use Rattle.wire.specs.Wire.{number_at_of, rect_at_of, rects, filled}

-- ---- values of binary32
pub bits_f32 : (n : ℕ) → fits binary32 (of_bits binary32 n) ≡ true
bits_f32 n = is_true _ (of_bits-fits binary32 n)

pub number_f32 : (v : List ℕ) (i : ℕ) → fits binary32 (number_at_of v i) ≡ true
unfolding number_at_of
number_f32 v i = bits_f32 _

pub rect_f32 : (v : List ℕ) (i : ℕ) → rect_is_f32 (rect_at_of v i) ≡ true
unfolding rect_is_f32 rect_at_of
rect_f32 v i = rw (number_f32 v (4 * i), number_f32 v (4 * i + 1), number_f32 v (4 * i + 2), number_f32 v (4 * i + 3))

rects_f32 : (v : List ℕ) (n : ℕ) → list_all rect_is_f32 (rects v n) ≡ true
unfolding tabulate
rects_f32 v zero = refl
rects_f32 v (suc n) = all_snoc rect_is_f32 (rects v n) (rect_at_of v n) (rects_f32 v n) (rect_f32 v n)

pub filled_f32 : (size : ℕ) (v : List ℕ) (n : ℕ) → list_all rect_is_f32 (take n (filled size v n)) ≡ true
unfolding filled
filled_f32 size v n = rw (take_at (rects v n) (replicate (size - n) empty_rect) n (length_tabulate (rect_at_of v) n)) (rects_f32 v n)
