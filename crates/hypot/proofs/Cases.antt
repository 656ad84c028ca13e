-- `hypot_of` with its sides exchanged, and its cases, by the patterns of the two sides.
use mathlib.Core.Path.{◌≡◌, refl, sym}
use mathlib.Core.Logic.{inl, inr}
use Prim.Native.Nat.{ℕ, ◌+◌, ◌*◌, ◌<◌, min, max}
use native.Mathlib.Nat.{le_of_lt, add_comm, min-eq_left, min-eq_right, max-eq_left, max-eq_right}
use mathlib.Core.Bool.{Bool, true, false}
use lib.Dec.{T}
use lib.Ieee.{Float, nan, inf, fin, binary32, fits, to_bits}
use Rattle.hypot.specs.Hypot.{whole, nearest_root, hypot_of}
use Rattle.hypot.specs.Pattern.{unsigned_pattern_of, pattern_value}
use Rattle.hypot.specs.Nearest.{HypotIsRoot}
use Rattle.hypot.proofs.Order.{lt_or_ge}
use Rattle.hypot.proofs.Floats.{InUnits, finite_is, nan_is, inf_is}

pub hypot_comm : (a b : Float) → hypot_of a b ≡ hypot_of b a
unfolding hypot_of
hypot_comm nan nan = refl
hypot_comm nan (inf t) = refl
hypot_comm nan (fin t n d) = refl
hypot_comm (inf s) nan = refl
hypot_comm (inf s) (inf t) = refl
hypot_comm (inf s) (fin t n d) = refl
hypot_comm (fin s m e) nan = refl
hypot_comm (fin s m e) (inf t) = refl
hypot_comm (fin s m e) (fin t n d) = rw (add_comm (whole m e * whole m e) (whole n d * whole n d))

-- ---- the first side, infinite or NaN
inf_pattern : (s : Bool) → unsigned_pattern_of (inf s) ≡ 0x7f80_0000
unfolding to_bits
inf_pattern true = refl
inf_pattern false = refl

nan_left : (b : Float) → (unsigned_pattern_of b ≡ 0x7f80_0000 → ⊥) → hypot_of nan b ≡ nan
unfolding hypot_of
nan_left nan h = refl
nan_left (inf t) h = absurd (h (inf_pattern t))
nan_left (fin t n d) h = refl

pub first_inf : (a b : Float) → T (fits binary32 a) → unsigned_pattern_of a ≡ 0x7f80_0000 → inf false ≡ hypot_of a b
unfolding hypot_of
first_inf a b A h = rw (inf_is a A h).1

pub first_nan : (a b : Float) → T (fits binary32 a) → 0x7f80_0000 < unsigned_pattern_of a → (unsigned_pattern_of b ≡ 0x7f80_0000 → ⊥) → a ≡ hypot_of a b
first_nan a b A h k = rw (nan_is a A h) (sym (nan_left b k))

-- ---- both finite
both : (a b : Float) (m n : ℕ) → InUnits a m → InUnits b n → hypot_of a b ≡ nearest_root (m * m + n * n)
unfolding hypot_of
both nan b m n h k = absurd h
both (inf s) b m n h k = absurd h
both (fin s x e) nan m n h k = absurd k
both (fin s x e) (inf t) m n h k = absurd k
both (fin s x e) (fin t y d) m n h k = rw (h, k)

pub hypot_is_root : (a b : Float) → HypotIsRoot a b
hypot_is_root a b A B h k = both a b _ _ (finite_is a A h) (finite_is b B k)

sorted : (p q : ℕ) → pattern_value (max p q) * pattern_value (max p q) + pattern_value (min p q) * pattern_value (min p q) ≡ pattern_value p * pattern_value p + pattern_value q * pattern_value q
sorted p q = elim (lt_or_ge p q) [
  | inl h ↦ rw (max-eq_right (le_of_lt h), min-eq_left (le_of_lt h)) (add_comm (pattern_value q * pattern_value q) (pattern_value p * pattern_value p))
  | inr h ↦ rw (max-eq_left h, min-eq_right h)
]

-- p and q are the patterns, h and l the larger and the smaller of them
pub finite_both : (a b : Float) → T (fits binary32 a) → T (fits binary32 b) → (p q h l : ℕ) → p ≡ unsigned_pattern_of a → q ≡ unsigned_pattern_of b
    → h ≡ max p q → l ≡ min p q → p < 0x7f80_0000 → q < 0x7f80_0000
    → nearest_root (pattern_value h * pattern_value h + pattern_value l * pattern_value l) ≡ hypot_of a b
finite_both a b A B p q h l pp qq hh ll P Q = rw (hh, ll, sorted p q, pp, qq) (sym (hypot_is_root a b A B (rw pp at P) (rw qq at Q)))
