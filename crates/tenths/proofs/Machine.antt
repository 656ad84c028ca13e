-- What the machine computes of signed numbers of 64 bits: none is too large, and each is read back.
use mathlib.Core.Path.{◌≡◌, refl}
use Prim.Native.Nat.{ℕ, ◌+◌, ◌%◌, ◌*◌, ◌^◌, ◌≤◌, ◌<◌}
use native.Mathlib.Nat.{lt_of_le_of_lt}
use native.Mathlib.Omega.{arith}
use lib.Dec.{lit<}
use lib.IntN.{ℤ, pos, neg_ℤ, ◌+ℤ◌, ◌-ℤ◌, ◌*ℤ◌}
use lib.Signed.{mag, mag_shr, shr_z}
use mir.Syntax.{w32, w64}
use mir.Val.{SFits, to_z}
use mir.Facts.{to_z_pos}
use borrow.Author.Rules.{sfits_of}
use Rattle.prelude.proofs.Signed.{back_in, kept_in, mag_minus, minus_fits_in, minus_is_in, back, kept}
use Rattle.tenths.proofs.Floors.{Small, floor, floor_small, sum_small, small_mag}

abbrev pub back64 : ℤ → ℤ
back64 z = back_in w64 z

shifted : (z : ℤ) (d : ℕ) → mag z < 2 ^ 63 → back64 (shr_z z d) ≡ shr_z z d
shifted z d h = kept_in w64 (shr_z z d) (lt_of_le_of_lt (mag_shr z d) h)

-- ---- a mantissa times 10 * 2^35
module _ (n : ℕ) where
  abbrev mantissa : ℕ
  mantissa = 0x80_0000 + n % 0x80_0000

  abbrev size : ℤ
  size = pos (mantissa * 0x50_0000_0000)

  product : to_z w64 mantissa *ℤ pos 0x50_0000_0000 ≡ size
  product = rw (to_z_pos w64 {n = mantissa} (omega arith)) refl

  pub product_fits : SFits w64 (to_z w64 mantissa *ℤ pos 0x50_0000_0000)
  product_fits = rw product (sfits_of (omega arith))

  pub minus_fits : SFits w64 (pos 0 -ℤ back64 (to_z w64 mantissa *ℤ pos 0x50_0000_0000))
  minus_fits = rw product (minus_fits_in w64 size (omega arith))

  pub plus_shifted : (d : ℕ) → back64 (shr_z (back64 (to_z w64 mantissa *ℤ pos 0x50_0000_0000)) d) ≡ shr_z size d
  plus_shifted d = rw (product, kept_in w64 size (omega arith)) (shifted size d (omega arith))

  pub minus_shifted : (d : ℕ) → back64 (shr_z (back64 (pos 0 -ℤ back64 (to_z w64 mantissa *ℤ pos 0x50_0000_0000))) d) ≡ shr_z (neg_ℤ size) d
  minus_shifted d = rw (product, minus_is_in w64 size (omega arith)) (shifted (neg_ℤ size) d (omega (arith, mag_minus size)))

-- ---- two tenfolds, and k more
module _ (a b : ℤ) (p : Small (2 ^ 56) a) (q : Small (2 ^ 56) b) where
  sum_is : back64 a +ℤ back64 b ≡ a +ℤ b
  sum_is = rw (kept_in w64 a (omega (arith, small_mag a p)), kept_in w64 b (omega (arith, small_mag b q)))

  sum_few : mag (a +ℤ b) < 2 ^ 63
  sum_few = omega (arith, small_mag (a +ℤ b) (sum_small p q))

  pub sum_fits : SFits w64 (back64 a +ℤ back64 b)
  sum_fits = rw sum_is (sfits_of sum_few)

  module _ (k : ℕ) (h : k ≤ 2 ^ 34) where
    more_is : back64 (back64 a +ℤ back64 b) +ℤ pos k ≡ a +ℤ b +ℤ pos k
    more_is = rw (sum_is, kept_in w64 (a +ℤ b) sum_few)

    more_small : Small (2 ^ 57 + 2 ^ 34) (a +ℤ b +ℤ pos k)
    more_small = sum_small (sum_small p q) (record { above = h; below = omega arith })

    more_few : mag (a +ℤ b +ℤ pos k) < 2 ^ 63
    more_few = omega (arith, small_mag (a +ℤ b +ℤ pos k) more_small)

    pub more_fits : SFits w64 (back64 (back64 a +ℤ back64 b) +ℤ pos k)
    more_fits = rw more_is (sfits_of more_few)

    abbrev whole : ℤ
    whole = shr_z (a +ℤ b +ℤ pos k) (2 ^ 35)

    whole_is : back64 (shr_z (back64 (back64 (back64 a +ℤ back64 b) +ℤ pos k)) (2 ^ 35)) ≡ whole
    whole_is = rw (more_is, kept_in w64 (a +ℤ b +ℤ pos k) more_few) (shifted (a +ℤ b +ℤ pos k) (2 ^ 35) more_few)

    whole_few : mag whole < 2 ^ 31
    whole_few =
        let s = more_small in
        let f = floor_small (2 ^ 24) (floor (a +ℤ b +ℤ pos k) {d = 2 ^ 35} (lit< tt)) (omega arith) in
        omega (arith, small_mag whole f)

    pub whole_fits : SFits w32 (back64 (shr_z (back64 (back64 (back64 a +ℤ back64 b) +ℤ pos k)) (2 ^ 35)))
    whole_fits = rw whole_is (sfits_of whole_few)

    pub narrowed : back (back64 (shr_z (back64 (back64 (back64 a +ℤ back64 b) +ℤ pos k)) (2 ^ 35))) ≡ whole
    narrowed = rw whole_is (kept whole whole_few)
