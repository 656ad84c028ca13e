-- Products and quotients of two numbers that both vary, up to 2^28, as in `r.x * requested[0] / w` where requested is at most w. Only the size matters.
use mathlib.Core.Path.{◌≡◌, refl, ap, ◌∙◌}
use Prim.Native.Nat.{ℕ, ◌+◌, ◌-◌, ◌*◌, ◌^◌, ◌≤◌, ◌<◌}
use native.Mathlib.Nat.{mul-lt-mul_of_pos_left, le_trans, lt_of_lt_of_le, lt_of_le_of_lt, mul-pos, mul-le-mul_left, mul-le-mul_right, mul-le-mul, mul-lt-mul_of_pos_right, le_of_mul-le-mul_right, zero-lt-suc}
use native.Mathlib.Omega.{arith}
use mathlib.Core.Bool.{Bool, true, false, ◌&&◌}
use mathlib.Core.Logic.{◌⊎◌, inl, inr}
use lib.Dec.{T, leb, ltb, leb→le, le→leb, ltb→lt, lit≤}
use lib.Pow.{pow_pos}
use lib.Ieee.{Float, binary32}
use lib.Ieee.Scale.{overflow}
use Rattle.prelude.proofs.Booleans.{all_four}
use Rattle.float.specs.Float.{◌⊗◌, ◌⊘◌}
use Rattle.numerics.specs.Value.{magnitude, Whole, pos_if, neg_if, pos_part, neg_part, eps, top, limit, AtMost, P, N, Le}
use Rattle.numerics.specs.Range.{In, at, reach}
use Rattle.numerics.specs.Rects.{max_corner, max_area}
use Rattle.numerics.proofs.Operations.{Rounded, round_within, mul_rounded, div_rounded, size_is, one_zero}
use Rattle.numerics.proofs.Bounds.{eps_pos, top_eps, near_magnitude, most_magnitude, magnitude_most, most_more}
use Rattle.numerics.proofs.Ranges.{in_reach, most_in}

-- the size of a rounded fraction Z / W units
record Sized (r : Float) (Z W e : ℕ) : Type 0 where
  whole : Whole r
  most : magnitude r * W ≤ Z + e * W

sized : (k : ℕ) {r : Float} {s : Bool} {Z W : ℕ} → Rounded r s Z W → Z < 2 ^ (k + 25) * W → 2 ^ (k + 25) + 2 ^ k < overflow binary32 → Sized r Z W (2 ^ k)
sized k {r} {s} {Z} {W} f h l =
    let n = round_within k f h l in
    record { whole = n.whole; most = rw (parts s) at (near_magnitude r (pos_if s Z) (neg_if s Z) W (2 ^ k) n) }
  where
    parts : (s : Bool) → pos_if s Z + neg_if s Z ≡ Z
    parts false = omega arith
    parts true = omega arith

sized_near : {r : Float} {s : Bool} {Z W : ℕ} → Rounded r s Z W → Z < top * W → Sized r Z W eps
unfolding eps top
sized_near f h = sized 141 f h (lit≤ tt)

unit : 2 ^ 149 ≡ eps * 256
unfolding eps
unit = refl

-- ---- a product of two numbers, k / 256 at most
product_room : (X Y e t l n m : ℕ) → X ≤ e * n → Y ≤ e * m → n * m < limit * 256 → t ≡ e * limit → l ≡ e * 256 → 0 < e → X * Y < t * l
product_room X Y e t l n m a b c p q h =
    let k : X * Y ≤ e * n * (e * m) = mul-le-mul a b in
    let o : t * l ≡ e * limit * (e * 256) = ap (λ (z : ℕ). z * l) p ∙ ap (λ (z : ℕ). e * limit * z) q in
    let z : e * e * (n * m) < e * e * (limit * 256) = mul-lt-mul_of_pos_left c (mul-pos h h) in
    omega arith

product_size : (r X Y e l n m k : ℕ) → r * l ≤ X * Y + e * l → X ≤ e * n → Y ≤ e * m → n * m ≤ k * 256 → l ≡ e * 256 → 0 < l → r ≤ e * (k + 1)
product_size r X Y e l n m k a b c d q D =
    let o : X * Y ≤ e * n * (e * m) = mul-le-mul b c in
    let z : e * e * (n * m) ≤ e * e * (k * 256) = mul-le-mul_left (e * e) d in
    let y : e * (k + 1) * l ≡ e * (k + 1) * (e * 256) = ap (λ (v : ℕ). e * (k + 1) * v) q in
    let x : e * l ≡ e * (e * 256) = ap (λ (v : ℕ). e * v) q in
    let w : r * l ≤ e * (k + 1) * l = omega arith in
    le_of_mul-le-mul_right w D

pub product_most : (k : ℕ) {x y : Float} {n m : ℕ} → AtMost x n → AtMost y m → T (ltb (n * m) (limit * 256)) → T (leb (n * m) (k * 256)) → AtMost (x ⊗ y) (k + 1)
product_most k {x} {y} {n} {m} f g t u =
    let X = most_magnitude f in
    let Y = most_magnitude g in
    let r = sized_near (mul_rounded x y f.whole g.whole) (product_room (magnitude x) (magnitude y) eps top (2 ^ 149) n m X Y (ltb→lt (n * m) (limit * 256) t) top_eps unit eps_pos) in
    magnitude_most r.whole (product_size (magnitude (x ⊗ y)) (magnitude x) (magnitude y) eps (2 ^ 149) n m k r.most X Y (leb→le (n * m) (k * 256) u) unit (pow_pos 149))

-- ---- x * y / z, with y from -8192 to 8192 and at most j times z, and z at least 205
first : (X Y e t l n : ℕ) → X ≤ e * n → Y ≤ e * max_area → n ≤ max_corner → t ≡ e * limit → l ≡ e * 256 → 0 < e → X * Y < t * 2048 * l
first X Y e t l n a b c p q h =
    let k : X * Y ≤ e * max_corner * (e * max_area) = mul-le-mul (le_trans a (mul-le-mul_left e c)) b in
    let m : t * 2048 * l ≡ e * limit * 2048 * (e * 256) = ap (λ (z : ℕ). z * 2048 * l) p ∙ ap (λ (z : ℕ). e * limit * 2048 * z) q in
    let z : 0 < e * e = mul-pos h h in
    omega arith

second : (r X Y Z e l j : ℕ) → r * l ≤ X * Y + e * 2048 * l → Y ≤ j * Z → 205 * l ≤ Z → r * l ≤ (X * j + e * 10) * Z
second r X Y Z e l j a b c =
    let k = mul-le-mul_left X b in
    let m = mul-le-mul_left e c in
    omega arith

third : (q X Z e n j rl : ℕ) → 0 < Z → q * Z ≤ rl + e * Z → rl ≤ (X * j + e * 10) * Z → X ≤ e * n → q ≤ e * (n * j + 11)
third q X Z e n j rl D a b c =
    let m : q * Z ≤ (X * j + e * 11) * Z = omega arith in
    let k = le_of_mul-le-mul_right m D in
    let l = mul-le-mul_right j c in
    omega arith

less_top : (rl X Z e t n j : ℕ) → rl ≤ (X * j + e * 10) * Z → X ≤ e * n → n * j ≤ (limit - 11) → t ≡ e * limit → 0 < Z → 0 < e → rl < t * Z
less_top rl X Z e t n j a b c p D h =
    let k : X * j + e * 10 < t = (let m = mul-le-mul_left e c in let o = mul-le-mul_right j b in omega arith) in
    lt_of_le_of_lt a (mul-lt-mul_of_pos_right k D)

scaled_most : (j : ℕ) {x y : Float} (z : Float) {n : ℕ} → AtMost x n → n ≤ max_corner → n * j ≤ (limit - 11) → AtMost y max_area → Whole z → magnitude y ≤ j * magnitude z → 205 * 2 ^ 149 ≤ magnitude z
    → AtMost (x ⊗ y ⊘ z) (n * j + 11)
scaled_most j {x} {y} z {n} f K K' g q below large =
    let X = most_magnitude f in
    let D : 0 < magnitude z = lt_of_lt_of_le (mul-pos (zero-lt-suc 204) (pow_pos 149)) large in
    let r : Sized (x ⊗ y) (magnitude x * magnitude y) (2 ^ 149) (eps * 2048) =
    unfold eps top in (sized 152 (mul_rounded x y f.whole g.whole) (first (magnitude x) (magnitude y) eps top (2 ^ 149) n X (most_magnitude g) K top_eps unit eps_pos) (lit≤ tt)) in
    let b = second (magnitude (x ⊗ y)) (magnitude x) (magnitude y) (magnitude z) eps (2 ^ 149) j r.most below large in
    let s = sized_near (div_rounded (x ⊗ y) z r.whole q D) (less_top (magnitude (x ⊗ y) * 2 ^ 149) (magnitude x) (magnitude z) eps top n j b X K' top_eps D eps_pos) in
    magnitude_most s.whole (third (magnitude (x ⊗ y ⊘ z)) (magnitude x) (magnitude z) eps n j (magnitude (x ⊗ y) * 2 ^ 149) D s.most b X)

abbrev pub scaledable : ℕ → ℕ → ℕ → ℕ → ℕ → ℕ → Bool
scaledable j a b c d e = leb (reach a b) max_corner && (leb (reach a b * j) (limit - 11) && (leb (reach c d) max_area && leb (at 205) e))

pub scaled_in : (j : ℕ) {x y z : Float} {a b c d e f : ℕ} → In x a b → In y c d → In z e f → magnitude y ≤ j * magnitude z → T (scaledable j a b c d e)
    → In (x ⊗ y ⊘ z) (limit - (reach a b * j + 11)) (limit + (reach a b * j + 11))
scaled_in j {x} {y} {z} {a} {b} {c} {d} {e} {f} u v w below t =
    let s = all_four (leb (reach a b) max_corner) (leb (reach a b * j) (limit - 11)) (leb (reach c d) max_area) (leb (at 205) e) t in
    let k = leb→le (reach a b * j) (limit - 11) s.1 in
    most_in
    (scaled_most j z (in_reach u) (leb→le (reach a b) max_corner s.0) k (most_more (in_reach v) max_area s.2) w.whole below
    (large (pos_part z) (neg_part z) (magnitude z) eps e (2 ^ 149) (mul-le-mul_left eps (leb→le (at 205) e s.3)) w.lo (size_is z) unit))
    (le→leb (reach a b * j + 11) limit (omega arith))
  where
    large : (p n m e c l : ℕ) → e * at 205 ≤ e * c → e * c + n ≤ p + e * limit → p + n ≡ m → l ≡ e * 256 → 205 * l ≤ m
    large p n m e c l h k q r = omega arith

-- a number at least 0 is no larger than one it is not above
pub le_magnitude : {y : Float} (z : Float) {a b : ℕ} → In y a b → T (leb limit a) → Le 1 y z → magnitude y ≤ 1 * magnitude z
le_magnitude {y} z {a} i t l = go (one_zero y) (mul-le-mul_left eps (leb→le limit a t)) (size_is y) (size_is z)
  where
    go : (pos_part y ≡ 0) ⊎ (neg_part y ≡ 0) → eps * limit ≤ eps * a → pos_part y + neg_part y ≡ magnitude y → pos_part z + neg_part z ≡ magnitude z → magnitude y ≤ 1 * magnitude z
    go (inl o) k m n = unfold P N in (omega (arith, i.lo))
    go (inr o) k m n = unfold P N in (omega (arith, i.lo))
