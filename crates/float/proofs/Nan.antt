-- The tests for NaN: a float that differs from itself, a bit pattern above the infinity's.
use Rattle.std.proofs.Common.{◌≡◌, ℕ, ◌*◌, ◌%◌, ◌<◌, ◌≤◌, Bool, true, false, not, T, refl, true≢false, lt→ltb}
use lib.Arith.{le→nltb}
use lib.Ieee.{Float, nan, inf, fin, Format, hid, ones, top, ne, is_nan, of_bits, nan_bits}
use lib.Ieee.Compare.{differs_from_itself}
use lib.Ieee.Bits.{is_false, nan_bits_is, nan_bits_above}

pub is_nan_lem : (x : Float) → ne x x ≡ true → x ≡ nan
is_nan_lem x e = differs_from_itself x (rw e tt)

pub no_nan : (x : Float) → ne x x ≡ false → T (not (is_nan x))
unfolding is_nan ne
no_nan nan h = absurd (true≢false h)
no_nan (inf s) h = tt
no_nan (fin s m e) h = tt

only_nan : (x : Float) → T (is_nan x) → x ≡ nan
unfolding is_nan
only_nan nan t = refl
only_nan (inf s) t = absurd t
only_nan (fin s m e) t = absurd t

pub nan_bits_lem : (f : Format) (n : ℕ) → ones f * hid f < n % top f → of_bits f n ≡ nan
nan_bits_lem f n h = only_nan (of_bits f n) (rw (← (nan_bits_is f n), nan_bits_above f n) (lt→ltb _ _ h))

pub no_nan_bits : (f : Format) (n : ℕ) → n % top f ≤ ones f * hid f → T (not (nan_bits f n))
no_nan_bits f n h = rw (nan_bits_above f n) (le→nltb _ _ h)

pub is_nan_is : (x : Float) → is_nan x ≡ ne x x
is_nan_is x = go (ne x x) refl
  where
    go : (b : Bool) → ne x x ≡ b → is_nan x ≡ b
    go true e = rw (is_nan_lem x e) (unfold is_nan in refl)
    go false e = is_false (is_nan x) (no_nan x e)
