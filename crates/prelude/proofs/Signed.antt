-- Signed integers: the machine reads back what it stored, also with the sign changed.
use mathlib.Core.Path.{◌≡◌, ◌∙◌}
use Prim.Native.Nat.{zero, suc, ◌^◌, ◌≤◌, ◌<◌}
use native.Mathlib.Nat.{lt_of_le_of_lt}
use native.Mathlib.Omega.{arith}
use lib.IntN.{ℤ, pos, negsuc, neg_ℤ, nat_abs, ◌-ℤ◌, +ℤ_idl}
use lib.Signed.{mag}
use mir.Syntax.{Width, w32}
use mir.Val.{SFits, to_z, of_z, hbits}
use mir.Facts.{to_z-of_z}
use borrow.Author.Rules.{sfits_of}

-- what is read back from the bits of z
abbrev pub back_in : Width → ℤ → ℤ
back_in w z = to_z w (of_z w z)

pub kept_in : (w : Width) (z : ℤ) → mag z < 2 ^ hbits w → back_in w z ≡ z
kept_in w z h = to_z-of_z (sfits_of h)

pub mag_abs : (z : ℤ) → mag z ≤ nat_abs z
mag_abs (pos n) = omega arith
mag_abs (negsuc n) = omega arith

pub mag_minus : (z : ℤ) → mag (neg_ℤ z) ≤ nat_abs z
mag_minus (pos zero) = omega arith
mag_minus (pos (suc n)) = omega arith
mag_minus (negsuc n) = omega arith

-- the sign changed
module _ (w : Width) (z : ℤ) (h : nat_abs z < 2 ^ hbits w) where
  few : mag (neg_ℤ z) < 2 ^ hbits w
  few = lt_of_le_of_lt (mag_minus z) h

  negative : pos 0 -ℤ back_in w z ≡ neg_ℤ z
  negative = rw (kept_in w z (lt_of_le_of_lt (mag_abs z) h)) (+ℤ_idl (neg_ℤ z))

  pub minus_fits_in : SFits w (pos 0 -ℤ back_in w z)
  minus_fits_in = rw negative (sfits_of few)

  pub minus_is_in : back_in w (pos 0 -ℤ back_in w z) ≡ neg_ℤ z
  minus_is_in = rw negative (kept_in w (neg_ℤ z) few)

-- ---- of 32 bits
abbrev pub back : ℤ → ℤ
back z = back_in w32 z

pub kept : (z : ℤ) → mag z < 2 ^ hbits w32 → back z ≡ z
kept z h = kept_in w32 z h

pub read_back : {z y : ℤ} → mag z < 2 ^ hbits w32 → z ≡ y → back z ≡ y
read_back {z} h e = kept z h ∙ e

pub minus_fits : (z : ℤ) → nat_abs z < 2 ^ hbits w32 → SFits w32 (pos 0 -ℤ back z)
minus_fits z h = minus_fits_in w32 z h

pub minus_is : (z : ℤ) → nat_abs z < 2 ^ hbits w32 → back (pos 0 -ℤ back z) ≡ neg_ℤ z
minus_is z h = minus_is_in w32 z h
