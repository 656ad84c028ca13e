-- The value of a bit pattern, by its fields.
use Rattle.std.proofs.Common.{◌≡◌, ℕ, suc, ◌+◌, ◌*◌, ◌/◌, ◌%◌, ◌^◌, ◌<◌, Bool, leb, refl, arith, ne_eqb}
use lib.Ieee.{Format, prec, low, hid, ones, top, of_fields, of_bits}
use lib.Ieee.Exact.{HasValue, odd_sign}

pub of_bits_is : (f : Format) (b : ℕ) → of_bits f b ≡ of_fields f (leb (top f) b) (b % top f / hid f) (b % hid f)
unfolding of_bits
of_bits_is f b = refl

pub fields_normal : (f : Format) (s : Bool) (x t : ℕ) → suc x < ones f → HasValue (of_fields f s (suc x) t) s ((hid f + t) * 2 ^ x) (2 ^ low f)
unfolding of_fields
fields_normal f s x t h = rw (ne_eqb (suc x) (ones f) (λ e. omega arith)) (odd_sign (prec f) s (hid f + t) x (low f))
