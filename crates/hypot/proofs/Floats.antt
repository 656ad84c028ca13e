-- Between the floats of lib.Ieee and their patterns: values, `units`, NaN and the infinity.
use mathlib.Core.Path.{◌≡◌, refl, sym, ◌∙◌}
use mathlib.Core.Logic.{◌⊎◌, inl, inr}
use Prim.Native.Nat.{ℕ, zero, suc, ◌+◌, ◌-◌, ◌*◌, ◌/◌, ◌%◌, ◌^◌, ◌≤◌, ◌<◌}
use native.Mathlib.Nat.{le_of_lt, eq-or-lt_of_le, mul-div_cancel, min-eq_left, min-eq_right}
use native.Mathlib.Omega.{arith}
use mathlib.Core.Bool.{Bool, true, false, true≢false}
use lib.Dec.{T, leb, ltb, lt→ltb}
use lib.Arith.{le→nltb, lt→nleb}
use lib.Ieee.{Float, nan, inf, fin, binary32, size, odd, units, fits, of_fields, of_bits, to_bits}
use lib.Ieee.Exact.{HasValue, odd_sign, units_val}
use lib.Ieee.Fits.{odd-fits, down_pos}
use lib.Ieee.Bits.{of_bits-to_bits, of_bits-fits, cond_no, is_true, is_false}
use lib.Ieee.Scale.{finite}
use Rattle.float.proofs.Nan.{nan_bits_lem}
use Rattle.float.proofs.Patterns.{of_bits_is, fields_normal}
use Rattle.hypot.specs.Hypot.{whole}
use Rattle.hypot.specs.Pattern.{unsigned_pattern_of, pattern_value, f32_at}
use Rattle.hypot.specs.Nearest.{PatternValueIs}
use Rattle.hypot.proofs.Order.{lt_or_ge}
use Rattle.hypot.proofs.Value.{value_lt, value_le, value_at}

-- ---- a pattern's value
fields_value : (s : Bool) (x t : ℕ) → x < 255 → t < 0x80_0000 → HasValue (of_fields binary32 s x t) s (pattern_value (x * 0x80_0000 + t)) (2 ^ 149)
unfolding of_fields
fields_value s zero t X H = rw (value_at 0 t (omega arith) (inl refl)) (odd_sign 24 s t 0 149)
fields_value s (suc x) t X H =
    let carry : suc x * 0x80_0000 + t ≡ x * 0x80_0000 + (0x80_0000 + t) = omega arith in
    rw (carry, value_at x (0x80_0000 + t) (omega arith) (inr (omega arith))) (fields_normal binary32 s x t X)

bits_value : (b : ℕ) → b % 0x8000_0000 < 0x7f80_0000 → HasValue (of_bits binary32 b) (leb 0x8000_0000 b) (pattern_value (b % 0x8000_0000)) (2 ^ 149)
bits_value b h =
    let x = b % 0x8000_0000 / 0x80_0000 in
    let t = b % 0x80_0000 in
    let e : x * 0x80_0000 + t ≡ b % 0x8000_0000 = omega arith in
    rw (of_bits_is binary32 b) (rw e at (fields_value (leb 0x8000_0000 b) x t (omega arith) (omega arith)))

pub pattern_value_is : (p : ℕ) → PatternValueIs p
pattern_value_is p h =
    let e : p % 0x8000_0000 ≡ p = omega arith in
    let s : leb 0x8000_0000 p ≡ false = is_false (leb 0x8000_0000 p) (lt→nleb 0x8000_0000 p (omega arith)) in
    rw (s, e) at (bits_value p (rw e h))

abbrev pub InUnits : Float → ℕ → Type 0
InUnits nan n = ⊥
InUnits (inf s) n = ⊥
InUnits (fin s m e) n = whole m e ≡ n

whole_of : (x : Float) (s : Bool) (n : ℕ) → HasValue x s n (2 ^ 149) → InUnits x n
whole_of nan s n h = h
whole_of (inf t) s n h = h
whole_of (fin t m e) s n h = rw h.1 (mul-div_cancel n (down_pos e))

pub finite_value : (x : Float) → T (fits binary32 x) → unsigned_pattern_of x < 0x7f80_0000 → HasValue x (leb 0x8000_0000 (to_bits binary32 x)) (pattern_value (unsigned_pattern_of x)) (2 ^ 149)
finite_value x held h = rw (of_bits-to_bits binary32 x held) at (bits_value (to_bits binary32 x) h)

pub finite_is : (x : Float) → T (fits binary32 x) → unsigned_pattern_of x < 0x7f80_0000 → InUnits x (pattern_value (unsigned_pattern_of x))
finite_is x held h = whole_of x _ _ (finite_value x held h)

-- ---- `units`
bits_at : (x : Float) (n : ℕ) → HasValue x false n (2 ^ 149) → to_bits binary32 x ≡ (size n - 24) * 0x80_0000 + n / 2 ^ (size n - 24)
unfolding to_bits
bits_at nan n h = absurd h
bits_at (inf s) n h = absurd h
bits_at (fin true m e) n h = absurd (true≢false h.0)
bits_at (fin false m e) n h = rw (whole_of (fin false m e) false n h) (omega arith)

same_value : (x y : Float) (n : ℕ) → T (fits binary32 x) → T (fits binary32 y) → HasValue x false n (2 ^ 149) → HasValue y false n (2 ^ 149) → x ≡ y
same_value x y n a b h k = rw (← (of_bits-to_bits binary32 x a), bits_at x n h, ← (bits_at y n k)) (of_bits-to_bits binary32 y b)

units_fit : (t k : ℕ) → t ≤ 0x100_0000 → t * 2 ^ k < 2 ^ 277 → T (fits binary32 (units binary32 false t k))
unfolding units
units_fit t k h g = rw (is_true (ltb (t * 2 ^ k) (2 ^ 277)) (lt→ltb (t * 2 ^ k) (2 ^ 277) g)) (odd-fits binary32 25 false t k (omega arith) h g)

units_over : (t k : ℕ) → 2 ^ 277 ≤ t * 2 ^ k → units binary32 false t k ≡ inf false
unfolding units
units_over t k h = cond_no (ltb (t * 2 ^ k) (2 ^ 277)) (odd 25 false t k 149) (inf false) (le→nltb (t * 2 ^ k) (2 ^ 277) h)

pub inf_bits : of_bits binary32 0x7f80_0000 ≡ inf false
unfolding of_bits
inf_bits = refl

pub units_at : (k t : ℕ) → t ≤ 0x100_0000 → (k ≡ 0) ⊎ (0x80_0000 ≤ t) → units binary32 false t k ≡ f32_at (k * 0x80_0000 + t)
units_at k t h l =
    let b = k * 0x80_0000 + t in
    let v : pattern_value b ≡ t * 2 ^ k = value_at k t h l in
    elim (lt_or_ge b 0x7f80_0000) [
      | inl g ↦
          let under : t * 2 ^ k < 2 ^ 277 = rw v at (value_lt g) in
          rw (min-eq_left (le_of_lt g)) (same_value _ _ (t * 2 ^ k) (units_fit t k h under) (of_bits-fits binary32 b) (units_val binary32 false t k under) (rw v at (pattern_value_is b g)))
      | inr g ↦ rw (units_over t k (rw v at (value_le g)), min-eq_right g, inf_bits)
    ]

-- ---- NaN
pub nan_is : (x : Float) → T (fits binary32 x) → 0x7f80_0000 < unsigned_pattern_of x → x ≡ nan
nan_is x held h = sym (of_bits-to_bits binary32 x held) ∙ nan_bits_lem binary32 _ h

-- ---- the infinity
pub inf_is : (x : Float) → T (fits binary32 x) → unsigned_pattern_of x ≡ 0x7f80_0000 → (s : Bool) × (x ≡ inf s)
unfolding of_fields
inf_is x held h =
    let b = to_bits binary32 x in
    let e : b % 0x8000_0000 / 0x80_0000 ≡ 255 = omega arith in
    let t : b % 0x80_0000 ≡ 0 = omega arith in
    (leb 0x8000_0000 b, sym (of_bits-to_bits binary32 x held) ∙ rw (of_bits_is binary32 b, e, t))

-- ---- a finite number
pub finite_pattern : (x : Float) → T (fits binary32 x) → T (finite x) → unsigned_pattern_of x < 0x7f80_0000
finite_pattern x held h = elim (lt_or_ge (unsigned_pattern_of x) 0x7f80_0000) [
  | inl l ↦ l
  | inr g ↦ elim (eq-or-lt_of_le g) [
    | inl e ↦ absurd (rw (inf_is x held (sym e)).1 at h)
    | inr l ↦ absurd (rw (nan_is x held l) at h)
  ]
]
