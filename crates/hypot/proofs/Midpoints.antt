-- A candidate is nearest if the rounded sum of squares lies between the rounded squares of its midpoints, since rounding keeps the order.
use mathlib.Core.Path.{◌≡◌, refl, sym, ap, ◌∙◌}
use mathlib.Core.Logic.{inl, inr}
use Prim.Native.Nat.{ℕ, suc, ◌+◌, ◌-◌, ◌*◌, ◌/◌, ◌%◌, ◌^◌, ◌≤◌, ◌<◌, zero-le}
use native.Mathlib.Nat.{lt_of_lt_of_le, lt_of_le_of_lt, le-add_right, mul-pos, mul-mul-mul_comm, lt_of_mul-lt-mul_right}
use native.Mathlib.Numerals.{lt-add-one}
use native.Mathlib.Omega.{arith}
use mathlib.Core.Bool.{Bool, true, false, true≢false}
use lib.Dec.{T, leb}
use lib.Arith.{lt→nleb}
use lib.Pow.{pow_pos, pow-add, pow_mono, shl_lt}
use lib.Ieee.{Float, nan, inf, fin, Format, binary32, binary64, up, down, unlike, round, add, mul, lt, fits, of_bits}
use lib.Ieee.Fits.{down_pos}
use lib.Ieee.Exact.{HasValue, round_exact}
use lib.Ieee.Order.{round_mono}
use lib.Ieee.Scale.{finite, round_same}
use lib.Ieee.Positive.{positive_of_value, mul_at}
use lib.Ieee.Bits.{is_false}
use Rattle.hypot.specs.Hypot.{hypot_of}
use Rattle.hypot.specs.Pattern.{unsigned_pattern_of, exponent_of, significand_of, pattern_value}
use Rattle.hypot.specs.Nearest.{mid}
use Rattle.hypot.specs.Parts.{f64_square_of, sum_of_squares_of, midpoint_of, SurelyNearest}
use Rattle.hypot.proofs.Order.{lt_or_ge, square_lt}
use Rattle.float.proofs.Order.{lt_le_trans, lt_irrefl}
use Rattle.float.proofs.Patterns.{of_bits_is, fields_normal}
use Rattle.hypot.proofs.Floats.{finite_value, finite_pattern}
use Rattle.hypot.proofs.Rounding.{mid_next, upper}
use Rattle.hypot.proofs.Ways.{parts, finite_nearest}
use Rattle.hypot.proofs.Cases.{hypot_is_root}
use Rattle.hypot.proofs.Value.{significand_lt, value_lt}

-- ---- the order of rounded fractions
-- of two fractions the one that rounds to less is the less
round_lt : (f : Format) (a b c d : ℕ) → 0 < b → 0 < d → T (lt (round f false a b) (round f false c d)) → a * d < c * b
round_lt f a b c d B D t = elim (lt_or_ge (a * d) (c * b)) [ inl h ↦ h | inr h ↦ absurd (lt_irrefl _ (lt_le_trans _ _ _ t (round_mono f c d a b D B h))) ]

-- ---- the sum of squares
abbrev L : ℕ
L = 2 ^ 149

squared : (m l v d : ℕ) → m * l ≡ v * d → m * m * (l * l) ≡ v * v * (d * d)
squared m l v d h = rw (mul-mul-mul_comm m m l l, h) (mul-mul-mul_comm v d v d)

alike : (s : Bool) → unlike s s ≡ false
alike true = refl
alike false = refl

square_is : (x : Float) (s : Bool) (v : ℕ) → HasValue x s v L → f64_square_of x ≡ round binary64 false (v * v) (L * L)
unfolding mul
square_is nan s v h = absurd h
square_is (inf t) s v h = absurd h
square_is (fin t m e) s v h =
    let n = m * up e in
    let d = down e in
    rw (alike t) (round_same binary64 false (n * n) (d * d) (v * v) (L * L) (mul-pos (down_pos e) (down_pos e)) (pow_pos 298) (squared n L v d h.1))

square_exact : (p : ℕ) → p < 0x7f80_0000 → HasValue (round binary64 false (pattern_value p * pattern_value p) (L * L)) false (pattern_value p * pattern_value p) (L * L)
square_exact p h =
    let c = significand_of p in
    let k = exponent_of p in
    let j = 776 + (k + k) in
    let small : c * c < 2 ^ 48 = square_lt (significand_lt p) in
    let short : 48 ≤ 53 = omega arith in
    let place : 48 + j ≤ 2098 = omega arith in
    round_exact binary64 false (pattern_value p * pattern_value p) (L * L) (c * c) j (pow_pos 298) (lt_of_lt_of_le small (pow_mono short))
    (lt_of_lt_of_le (shl_lt 48 j small) (pow_mono place))
    (rw (pow-add 2 776 (k + k), pow-add 2 k k) (spread c (2 ^ k) (2 ^ 776) (L * L)))
  where
    spread : (c K J W : ℕ) → c * K * (c * K) * (J * W) ≡ c * c * (J * (K * K)) * W
    spread c K J W = omega arith

square_value : (x : Float) → T (fits binary32 x) → unsigned_pattern_of x < 0x7f80_0000 → HasValue (f64_square_of x) false (pattern_value (unsigned_pattern_of x) * pattern_value (unsigned_pattern_of x)) (L * L)
square_value x held h = rw (square_is x _ _ (finite_value x held h)) (square_exact (unsigned_pattern_of x) h)

added : (m n a b d e c : ℕ) → m * c ≡ a * d → n * c ≡ b * e → (m * e + n * d) * c ≡ (a + b) * (d * e)
added m n a b d e c h k = omega (arith, ap (λ (z : ℕ). z * e) h, ap (λ (z : ℕ). z * d) k)

sum_is : (f : Format) (x y : Float) (a b c : ℕ) → 0 < c → HasValue x false a c → HasValue y false b c → add f x y ≡ round f false (a + b) c
unfolding add
sum_is f nan y a b c C h k = absurd h
sum_is f (inf s) y a b c C h k = absurd h
sum_is f (fin s m e) nan a b c C h k = absurd k
sum_is f (fin s m e) (inf t) a b c C h k = absurd k
sum_is f (fin true m e) (fin t n d) a b c C h k = absurd (true≢false h.0)
sum_is f (fin false m e) (fin true n d) a b c C h k = absurd (true≢false k.0)
sum_is f (fin false m e) (fin false n d) a b c C h k =
    round_same f false (m * up e * down d + n * up d * down e) (down e * down d) (a + b) c (mul-pos (down_pos e) (down_pos d)) C (added (m * up e) (n * up d) a b (down e) (down d) c h.1 k.1)

-- ---- both sides are finite, if the sum lies between two floats
lies_between : (x t y : Float) → T (lt x t) → T (lt t y) → T (finite t)
unfolding lt
lies_between x nan y h k = k
lies_between nan (inf true) y h k = h
lies_between (inf true) (inf true) y h k = h
lies_between (inf false) (inf true) y h k = h
lies_between (fin s m e) (inf true) y h k = h
lies_between x (inf false) nan h k = k
lies_between x (inf false) (inf t) h k = k
lies_between x (inf false) (fin t n d) h k = k
lies_between x (fin s m e) y h k = tt

finite_sum : (x y : Float) → T (finite (add binary64 x y)) → T (finite x) × T (finite y)
unfolding add
finite_sum nan y h = absurd h
finite_sum (inf s) nan h = absurd h
finite_sum (inf true) (inf true) h = absurd h
finite_sum (inf true) (inf false) h = absurd h
finite_sum (inf false) (inf true) h = absurd h
finite_sum (inf false) (inf false) h = absurd h
finite_sum (inf s) (fin t n d) h = absurd h
finite_sum (fin s m e) nan h = absurd h
finite_sum (fin s m e) (inf t) h = absurd h
finite_sum (fin s m e) (fin t n d) h = (tt, tt)

finite_square : (x : Float) → T (finite (f64_square_of x)) → T (finite x)
unfolding mul
finite_square nan h = h
finite_square (inf s) h = h
finite_square (fin s m e) h = tt

-- ---- the midpoint of g and g + 1
module _ (g : ℕ) (least : 0x80_0000 ≤ g) (most : g < 0x7f80_0000) where
  midpoint_value : HasValue (midpoint_of (0x1_c000_0000 + g)) false ((pattern_value (g + 1) + pattern_value g) * 2 ^ 924) (2 ^ 1074)
  midpoint_value =
      let b = (2 * (0x1_c000_0000 + g) + 1) * 0x1000_0000 in
      let k = exponent_of g in
      let c = significand_of g in
      let t = (2 * c + 1) * 0x1000_0000 - 0x10_0000_0000_0000 in
      let s : leb 0x8000_0000_0000_0000 b ≡ false = is_false _ (lt→nleb 0x8000_0000_0000_0000 b (omega arith)) in
      let x : b % 0x8000_0000_0000_0000 / 0x10_0000_0000_0000 ≡ suc (896 + k) = omega arith in
      let y : b % 0x10_0000_0000_0000 ≡ t = omega arith in
      let z : 0x10_0000_0000_0000 + t ≡ (2 * c + 1) * 0x1000_0000 = omega arith in
      let n : (0x10_0000_0000_0000 + t) * 2 ^ (896 + k) ≡ (pattern_value (g + 1) + pattern_value g) * 2 ^ 924 =
      rw (z, pow-add 2 896 k, regroup (2 * c + 1) 0x1000_0000 (2 ^ 896) (2 ^ k), mid_next k c (significand_lt g) (inr (omega arith)), parts g) in
      rw (of_bits_is binary64 b, s, x, y) (rw (← n) (fields_normal binary64 false (896 + k) t (omega arith)))
    where
      regroup : (m a b c : ℕ) → m * a * (b * c) ≡ m * c * (a * b)
      regroup m a b c = omega arith

  midpoint_square : f64_square_of (midpoint_of (0x1_c000_0000 + g))
      ≡ round binary64 false ((pattern_value (g + 1) + pattern_value g) * 2 ^ 924 * ((pattern_value (g + 1) + pattern_value g) * 2 ^ 924)) (2 ^ 1074 * 2 ^ 1074)
  midpoint_square =
      let m = midpoint_of (0x1_c000_0000 + g) in
      let a = (pattern_value (g + 1) + pattern_value g) * 2 ^ 924 in
      let some = lt_of_le_of_lt zero-le (lt_of_lt_of_le (value_lt (lt-add-one g)) (le-add_right (pattern_value (g + 1)) (pattern_value g))) in
      let p = positive_of_value m a (2 ^ 1074) midpoint_value (mul-pos some (pow_pos 924)) in
      mul_at binary64 m m a (2 ^ 1074) a (2 ^ 1074) p p (pow_pos 1074) (pow_pos 1074) midpoint_value midpoint_value

  -- the root is above the midpoint, or below it
  over : (n : ℕ) → T (lt (f64_square_of (midpoint_of (0x1_c000_0000 + g))) (round binary64 false n (L * L))) → mid (g + 1) g < 4 * n
  over n h = cancel (pattern_value (g + 1) + pattern_value g) (2 ^ 924) L n (round_lt binary64 _ (2 ^ 1074 * 2 ^ 1074) n (L * L) (pow_pos 2148) (pow_pos 298) (rw midpoint_square at h))
    where
      cancel : (h w l n : ℕ) → h * w * (h * w) * (l * l) < n * (w * (2 * l) * (w * (2 * l))) → h * h < 4 * n
      cancel h w l n k = lt_of_mul-lt-mul_right (w * w * (l * l)) (omega arith)

  under : (n : ℕ) → T (lt (round binary64 false n (L * L)) (f64_square_of (midpoint_of (0x1_c000_0000 + g)))) → 4 * n < mid (g + 1) g
  under n h = cancel (pattern_value (g + 1) + pattern_value g) (2 ^ 924) L n (round_lt binary64 n (L * L) _ (2 ^ 1074 * 2 ^ 1074) (pow_pos 298) (pow_pos 2148) (rw midpoint_square at h))
    where
      cancel : (h w l n : ℕ) → n * (w * (2 * l) * (w * (2 * l))) < h * w * (h * w) * (l * l) → 4 * n < h * h
      cancel h w l n k = lt_of_mul-lt-mul_right (w * w * (l * l)) (omega arith)

pub sure_is_nearest : (a b : Float) (p : ℕ) → T (fits binary32 a) → T (fits binary32 b) → SurelyNearest (sum_of_squares_of a b) p → of_bits binary32 (p - 0x1_c000_0000) ≡ hypot_of a b
sure_is_nearest a b p A B c =
    let both = finite_sum (f64_square_of a) (f64_square_of b) (lies_between _ _ _ c.low c.high) in
    let P = finite_pattern a A (finite_square a both.0) in
    let Q = finite_pattern b B (finite_square b both.1) in
    let v = pattern_value (unsigned_pattern_of a) in
    let w = pattern_value (unsigned_pattern_of b) in
    let n = v * v + w * w in
    let t = sum_is binary64 (f64_square_of a) (f64_square_of b) (v * v) (w * w) (L * L) (pow_pos 298) (square_value a A P) (square_value b B Q) in
    let g = p - 0x1_c000_0001 in
    let e : p - 1 ≡ 0x1_c000_0000 + g = omega (arith, c.least) in
    let d : p ≡ 0x1_c000_0000 + (g + 1) = omega (arith, c.least) in
    let i : p - 0x1_c000_0000 ≡ g + 1 = omega (arith, c.least) in
    let low = over g (omega (arith, c.least)) (omega (arith, c.most)) n (rw (e, t) at c.low) in
    let high = under (g + 1) (omega (arith, c.least)) (omega (arith, c.most)) n (rw (d, t) at c.high) in
    ap (of_bits binary32) i ∙ finite_nearest n (g + 1) (omega (arith, c.least, c.most)) (upper n g low high) ∙ sym (hypot_is_root a b A B P Q)
