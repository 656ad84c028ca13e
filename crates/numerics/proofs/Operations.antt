-- The f32 operations on values below 2^17, as inequalities between whole numbers of units: a result is within `eps` of the exact one. And comparisons as orders of values.
use mathlib.Core.Path.{◌≡◌, refl, sym, ap, ap₂, ◌∙◌, subst}
use Prim.Native.Nat.{ℕ, zero, suc, ◌+◌, ◌-◌, ◌*◌, ◌/◌, ◌%◌, ◌^◌, ◌≤◌, ◌<◌}
use native.Mathlib.Nat.{zero-lt-suc, le_of_eq, le_of_lt, le_of_suc-le-suc, lt_of_not-le, not-le_of_lt, sub-add_cancel, mul-one, mul_comm, mul_assoc, mul-le-mul_right, mul-lt-mul_of_pos_right, le_of_mul-le-mul_right, lt_of_mul-lt-mul_right, eq_of_mul-eq-mul_right, mul-pos, mul-sub, mul-div_cancel, zero-mul, mul-zero}
use native.Mathlib.Omega.{arith}
use mathlib.Core.Bool.{Bool, true, false, not, ◌&&◌, ◌||◌, beq, cond}
use mathlib.Core.Logic.{◌⊎◌, inl, inr}
use lib.IntN.{ℤ, pos, negsuc}
use lib.Dec.{T, leb, ltb, eqb, leb→le, ltb→lt, nltb→le, eqb→eq, lit≤}
use lib.Pow.{pow-add, pow_pos, pow-lt}
use borrow.Author.Tests.{ne_eqb}
use lib.Ieee.{Float, nan, inf, fin, binary32, up, down, unlike, round, neg, sum, add, sub, mul, div, lt, eq, fits, is_nan, below, level}
use lib.Ieee.Fits.{up_pos, down_pos, and_l, and_r}
use lib.Ieee.Exact.{HasValue, round_exact}
use lib.Ieee.Scale.{grid, finite, overflow}
use Rattle.float.specs.Float.{◌⊕◌, ◌⊖◌, ◌⊗◌, ◌⊘◌}
use Rattle.numerics.specs.Value.{magnitude, sign, Whole, pos_if, neg_if, pos_part, neg_part, eps, top, AtMost, Fraction}
use Rattle.numerics.proofs.Rounding.{Close, grid_close, round_value}

-- ---- an f32 is a whole number of units
expo : (k l : ℕ) → 2 ^ k ≤ 2 ^ l → k ≤ l
expo k l h = le_of_suc-le-suc (lt_of_not-le (λ (g : suc l ≤ k). not-le_of_lt (pow-lt g) h))

split : (k l : ℕ) → k ≤ l → 2 ^ l ≡ 2 ^ (l - k) * 2 ^ k
split k l h = ap (λ (x : ℕ). 2 ^ x) (sym (sub-add_cancel h)) ∙ pow-add 2 (l - k) k

exact : (n d q : ℕ) → 0 < d → n ≡ q * d → n ≡ n / d * d
exact n d q D e = e ∙ ap (λ (x : ℕ). x * d) (sym (ap (λ (x : ℕ). x / d) e ∙ mul-div_cancel q D))

low_enough : (m : ℕ) (s : Bool) (e : ℤ) → T (fits binary32 (fin s (suc m) e)) → down e ≤ 2 ^ 149
unfolding fits
low_enough m s e t =
    let a : Bool = eqb (suc m % 2) 1 in
    let b : Bool = ltb (suc m) (2 ^ 24) in
    let c : Bool = leb (down e) (2 ^ 149) in
    let d : Bool = ltb (suc m * up e) (2 ^ 128 * down e) in
    leb→le (down e) (2 ^ 149) (and_r (a && b) c (and_l (a && b && c) d t))

pub fits_whole : (x : Float) → T (finite x) → T (fits binary32 x) → Whole x
unfolding magnitude
fits_whole nan f t = absurd f
fits_whole (inf s) f t = absurd f
fits_whole (fin s zero e) f t = exact (0 * up e * 2 ^ 149) (down e) 0 (down_pos e) (simp zero-mul)
fits_whole (fin s (suc m) (pos k)) f t = exact (suc m * 2 ^ k * 2 ^ 149) 1 (suc m * 2 ^ k * 2 ^ 149) (down_pos (pos k)) (sym (mul-one (suc m * 2 ^ k * 2 ^ 149)))
fits_whole (fin s (suc m) (negsuc k)) f t =
    let h : suc k ≤ 149 = expo (suc k) 149 (low_enough m s (negsuc k) t) in
    exact (suc m * 1 * 2 ^ 149) (2 ^ suc k) (suc m * 1 * 2 ^ (149 - suc k)) (down_pos (negsuc k)) (ap (λ (x : ℕ). suc m * 1 * x) (split (suc k) 149 h) ∙ sym (mul_assoc (suc m * 1) (2 ^ (149 - suc k)) (2 ^ suc k)))

whole_ind : (C : Float → Type 0) → ((s : Bool) (m : ℕ) (e : ℤ) → C (fin s m e)) → (x : Float) → Whole x → C x
whole_ind C f nan p = absurd p
whole_ind C f (inf s) p = absurd p
whole_ind C f (fin s m e) p = f s m e

pub whole_finite : (x : Float) → Whole x → T (finite x)
whole_finite = whole_ind (λ x. T (finite x)) (λ s m e. tt)

pub whole_not_nan : (x : Float) → Whole x → T (not (is_nan x))
unfolding is_nan
whole_not_nan = whole_ind (λ x. T (not (is_nan x))) (λ s m e. tt)

-- ---- x is (P - Q) / W units but for e
pub record Near (x : Float) (P Q W e : ℕ) : Type 0 where
  pub whole : Whole x
  pub over : pos_part x * W + Q ≤ neg_part x * W + P + e * W
  pub under : neg_part x * W + P ≤ pos_part x * W + Q + e * W

shifted : (x : Float) (P Q W e P' Q' : ℕ) → Near x P Q W e → P + Q' ≡ P' + Q → Near x P' Q' W e
shifted x P Q W e P' Q' h q = record { whole = h.whole; over = omega arith; under = omega arith }

pub value_is : (x : Float) (s : Bool) (g : ℕ) → HasValue x s g (2 ^ 149) → Whole x × (magnitude x ≡ g) × (sign x ≡ s)
unfolding magnitude
value_is nan s g h = absurd h
value_is (inf t) s g h = absurd h
value_is (fin t m d) s g h =
    let n = m * up d * 2 ^ 149 in
    (exact n (down d) g (down_pos d) h.1, ap (λ (x : ℕ). x / down d) h.1 ∙ mul-div_cancel g (down_pos d), h.0)

of_value : (x : Float) (s : Bool) (g Z W e : ℕ) → HasValue x s g (2 ^ 149) → g * W ≤ Z + e * W → Z ≤ g * W + e * W → Near x (pos_if s Z) (neg_if s Z) W e
unfolding pos_part neg_part
of_value x s g Z W e h a b =
    let v = value_is x s g h in
    let k = go s in
    record { whole = v.0; over = rw (v.1, v.2) k.0; under = rw (v.1, v.2) k.1 }
  where
    go : (s : Bool) → (pos_if s g * W + neg_if s Z ≤ neg_if s g * W + pos_if s Z + e * W) × (neg_if s g * W + pos_if s Z ≤ pos_if s g * W + neg_if s Z + e * W)
    go false = omega arith
    go true = omega arith

-- ---- a fraction rounded
-- r is the fraction a / c, which is Z / W units, rounded and with the sign s
pub record Rounded (r : Float) (s : Bool) (Z W : ℕ) : Type 0 where
  pub a : ℕ
  pub c : ℕ
  pub is : r ≡ round binary32 s a c
  pub divisor : 0 < c
  pub units : a * 2 ^ 149 * W ≡ Z * c

rescale : (a l c Z W Z' W' : ℕ) → 0 < W → a * l * W ≡ Z * c → Z * W' ≡ Z' * W → a * l * W' ≡ Z' * c
rescale a l c Z W Z' W' D p q = eq_of_mul-eq-mul_right W D (a * l * W') (Z' * c) (let e = ap (λ (z : ℕ). z * W') p in let f = ap (λ (z : ℕ). z * c) q in omega arith)

rescaled : {r : Float} {s : Bool} {Z W : ℕ} (Z' W' : ℕ) → Rounded r s Z W → 0 < W → Z * W' ≡ Z' * W → Rounded r s Z' W'
rescaled {Z = Z} {W = W} Z' W' h D q = record { a = h.a; c = h.c; is = h.is; divisor = h.divisor; units = rescale h.a (2 ^ 149) h.c Z W Z' W' D h.units q }

strip : (g n c e W Z : ℕ) → 0 < c → n * W ≡ Z * c → Close g n c e → (g * W ≤ Z + e * W) × (Z ≤ g * W + e * W)
strip g n c e W Z C q h =
    let a = mul-le-mul_right W h.over in
    let b = mul-le-mul_right W h.under in
    let x : g * W * c ≤ (Z + e * W) * c = omega arith in
    let y : Z * c ≤ (g * W + e * W) * c = omega arith in
    (le_of_mul-le-mul_right x C, le_of_mul-le-mul_right y C)

units_below : (n c t W Z : ℕ) → 0 < c → n * W ≡ Z * c → Z < t * W → n < t * c
units_below n c t W Z C q h = let k = mul-lt-mul_of_pos_right h C in let x : n * W < t * c * W = omega arith in lt_of_mul-lt-mul_right W x

-- below 2 ^ (k + 25) units it is off by 2 ^ k at most
pub round_within : (k : ℕ) {r : Float} {s : Bool} {Z W : ℕ} → Rounded r s Z W → Z < 2 ^ (k + 25) * W → 2 ^ (k + 25) + 2 ^ k < overflow binary32 → Near r (pos_if s Z) (neg_if s Z) W (2 ^ k)
round_within k {s = s} {Z = Z} {W = W} r h l =
    let a = r.a in
    let c = r.c in
    let i = units_below (a * 2 ^ 149) c (2 ^ (k + 25)) W Z r.divisor r.units h in
    let f = strip (grid binary32 a c) (a * 2 ^ 149) c (2 ^ k) W Z r.divisor r.units (grid_close binary32 k a c r.divisor i) in
    rw r.is (of_value (round binary32 s a c) s (grid binary32 a c) Z W (2 ^ k) (round_value binary32 k a c r.divisor i s l) f.0 f.1)

round_near : {r : Float} {s : Bool} {Z W : ℕ} → Rounded r s Z W → Z < top * W → Near r (pos_if s Z) (neg_if s Z) W eps
unfolding eps top
round_near r h = round_within 141 r h (lit≤ tt)

-- ---- two finite numbers over one divisor, and what is made of them there
record Shared (x y : Float) : Type 0 where
  pub a : ℕ
  pub b : ℕ
  pub c : ℕ
  pub divisor : 0 < c
  pub left : a * 2 ^ 149 ≡ magnitude x * c
  pub right : b * 2 ^ 149 ≡ magnitude y * c
  pub sums : x ⊕ y ≡ sum binary32 (sign x) a (sign y) b c
  pub belows : lt x y ≡ below (sign x) a (sign y) b
  pub levels : eq x y ≡ level (sign x) a (sign y) b

-- m * ue / de is M units, so over the common divisor de * dd it is M too
common : (mu l M de dd : ℕ) → mu * l ≡ M * de → mu * dd * l ≡ M * (de * dd)
common mu l M de dd q = let e = ap (λ (z : ℕ). z * dd) q in omega arith

shared : (x y : Float) → Whole x → Whole y → Shared x y
shared nan y p q = absurd p
shared (inf s) y p q = absurd p
shared (fin s m e) nan p q = absurd q
shared (fin s m e) (inf t) p q = absurd q
shared (fin s m e) (fin t n d) p q =
    record {
      a = m * up e * down d;
      b = n * up d * down e;
      c = down e * down d;
      divisor = mul-pos (down_pos e) (down_pos d);
      left = common (m * up e) (2 ^ 149) _ (down e) (down d) p;
      right = common (n * up d) (2 ^ 149) _ (down d) (down e) q ∙ ap (λ (z : ℕ). magnitude (fin t n d) * z) (mul_comm (down d) (down e));
      sums = unfold add in refl;
      belows = unfold lt in refl;
      levels = unfold eq in refl;
    }

-- a / c and b / c are M / l and N / l
module _ (l a b c M N : ℕ) (p : a * l ≡ M * c) (q : b * l ≡ N * c) where
  pub less : 0 < c → a ≤ b → M ≤ N
  less C h = let k = mul-le-mul_right l h in let x : M * c ≤ N * c = omega arith in le_of_mul-le-mul_right x C

  strictly : 0 < l → a < b → M < N
  strictly L h = let k = mul-lt-mul_of_pos_right h L in let x : M * c < N * c = omega arith in lt_of_mul-lt-mul_right c x

  minus : (b - a) * l ≡ (N - M) * c
  minus = rw (mul_comm (b - a), mul_comm (N - M), mul-sub, mul-sub) (omega arith)

  plus : (a + b) * l ≡ (M + N) * c
  plus = omega arith

nothing : (l c : ℕ) → 0 * l ≡ 0 * c
nothing l c = omega arith

-- a fraction of Z units, by any two parts with that difference
whole_near : (s : Bool) (a c Z P Q : ℕ) → 0 < c → a * 2 ^ 149 ≡ Z * c → Z < top → pos_if s Z + Q ≡ P + neg_if s Z → Near (round binary32 s a c) P Q 1 eps
whole_near s a c Z P Q C q h e = shifted _ (pos_if s Z) (neg_if s Z) 1 eps P Q (round_near (record { a = a; c = c; is = refl; divisor = C; units = mul-one (a * 2 ^ 149) ∙ q }) (omega arith)) e

module _ (a b c M N : ℕ) (C : 0 < c) (p : a * 2 ^ 149 ≡ M * c) (q : b * 2 ^ 149 ≡ N * c) where
  -- signs that differ
  difference_near : (s x y : Bool) → (T x → a < b) → (T (not x) → b ≤ a) → (T (not y) → a ≤ b) → M + N < top
      → Near (cond x (round binary32 (not s) (b - a) c) (round binary32 (s && y) (a - b) c)) (pos_if s M + pos_if (not s) N) (neg_if s M + neg_if (not s) N) 1 eps
  difference_near false true y u v w h =
      let l = less (2 ^ 149) a b c M N p q C (le_of_lt (u tt)) in whole_near true (b - a) c (N - M) _ _ C (minus (2 ^ 149) a b c M N p q) (omega arith) (omega arith)
  difference_near true true y u v w h =
      let l = less (2 ^ 149) a b c M N p q C (le_of_lt (u tt)) in whole_near false (b - a) c (N - M) _ _ C (minus (2 ^ 149) a b c M N p q) (omega arith) (omega arith)
  difference_near false false y u v w h =
      let l = less (2 ^ 149) b a c N M q p C (v tt) in whole_near false (a - b) c (M - N) _ _ C (minus (2 ^ 149) b a c N M q p) (omega arith) (omega arith)
  difference_near true false true u v w h =
      let l = less (2 ^ 149) b a c N M q p C (v tt) in whole_near true (a - b) c (M - N) _ _ C (minus (2 ^ 149) b a c N M q p) (omega arith) (omega arith)
  difference_near true false false u v w h =
      let l = less (2 ^ 149) b a c N M q p C (v tt) in
      let k = less (2 ^ 149) a b c M N p q C (w tt) in
      whole_near false (a - b) c (M - N) _ _ C (minus (2 ^ 149) b a c N M q p) (omega arith) (omega arith)

  sum_near : (s t : Bool) → M + N < top → Near (sum binary32 s a t b c) (pos_if s M + pos_if t N) (neg_if s M + neg_if t N) 1 eps
  unfolding sum
  sum_near false false h = whole_near false (a + b) c (M + N) _ _ C (plus (2 ^ 149) a b c M N p q) h (omega arith)
  sum_near true true h = whole_near true (a + b) c (M + N) _ _ C (plus (2 ^ 149) a b c M N p q) h (omega arith)
  sum_near false true h = difference_near false (ltb a b) (ltb b a) (ltb→lt a b) (nltb→le a b) (nltb→le b a) h
  sum_near true false h = difference_near true (ltb a b) (ltb b a) (ltb→lt a b) (nltb→le a b) (nltb→le b a) h

  below_true : (s t : Bool) → T (below s a t b) → pos_if s M + neg_if t N < pos_if t N + neg_if s M
  below_true false false h = omega (arith, strictly (2 ^ 149) a b c M N p q (pow_pos 149) (ltb→lt a b h))
  below_true false true h = absurd h
  below_true true false h = omega (arith, strictly (2 ^ 149) 0 (a + b) c 0 (M + N) (nothing (2 ^ 149) c) (plus (2 ^ 149) a b c M N p q) (pow_pos 149) (ltb→lt 0 (a + b) h))
  below_true true true h = omega (arith, strictly (2 ^ 149) b a c N M q p (pow_pos 149) (ltb→lt b a h))

  below_false : (s t : Bool) → T (not (below s a t b)) → pos_if t N + neg_if s M ≤ pos_if s M + neg_if t N
  below_false false false h = omega (arith, less (2 ^ 149) b a c N M q p C (nltb→le a b h))
  below_false false true h = omega arith
  below_false true false h = omega (arith, less (2 ^ 149) (a + b) 0 c (M + N) 0 (plus (2 ^ 149) a b c M N p q) (nothing (2 ^ 149) c) C (nltb→le 0 (a + b) h))
  below_false true true h = omega (arith, less (2 ^ 149) a b c M N p q C (nltb→le b a h))

  level_true : (s t : Bool) → T (level s a t b) → pos_if s M + neg_if t N ≡ pos_if t N + neg_if s M
  level_true s t h =
      let e : a ≡ b = eqb→eq a b (and_l (eqb a b) _ h) in
      go s t (and_r (eqb a b) _ h) (less (2 ^ 149) a b c M N p q C (le_of_eq e)) (less (2 ^ 149) b a c N M q p C (le_of_eq (sym e)))
    where
      flat : T (eqb a 0) → M ≤ 0
      flat z = less (2 ^ 149) a 0 c M 0 p (nothing (2 ^ 149) c) C (le_of_eq (eqb→eq a 0 z))

      go : (s t : Bool) → T (beq s t || eqb a 0) → M ≤ N → N ≤ M → pos_if s M + neg_if t N ≡ pos_if t N + neg_if s M
      go false false k u v = omega arith
      go true true k u v = omega arith
      go false true k u v = omega (arith, flat k)
      go true false k u v = omega (arith, flat k)

-- a size, and no matter what sign
pub size_is : (x : Float) → pos_part x + neg_part x ≡ magnitude x
unfolding pos_part neg_part magnitude
size_is nan = refl
size_is (inf false) = refl
size_is (inf true) = refl
size_is (fin false m e) = omega arith
size_is (fin true m e) = omega arith

pub one_zero : (x : Float) → (pos_part x ≡ 0) ⊎ (neg_part x ≡ 0)
unfolding pos_part neg_part
one_zero nan = inr refl
one_zero (inf false) = inr refl
one_zero (inf true) = inl refl
one_zero (fin false m e) = inr refl
one_zero (fin true m e) = inl refl

pub add_near : (x y : Float) → Whole x → Whole y → magnitude x + magnitude y < top → Near (x ⊕ y) (pos_part x + pos_part y) (neg_part x + neg_part y) 1 eps
unfolding pos_part neg_part
add_near x y p q h = let k = shared x y p q in rw k.sums (sum_near k.a k.b k.c (magnitude x) (magnitude y) k.divisor k.left k.right (sign x) (sign y) h)

pub neg_whole : (y : Float) → Whole y → Whole (neg y)
unfolding neg magnitude
neg_whole nan p = p
neg_whole (inf s) p = p
neg_whole (fin s m e) p = p

neg_magnitude : (y : Float) → magnitude (neg y) ≡ magnitude y
unfolding neg magnitude
neg_magnitude nan = refl
neg_magnitude (inf s) = refl
neg_magnitude (fin s m e) = refl

pub neg_swaps : (y : Float) → Whole y → (pos_part (neg y) ≡ neg_part y) × (neg_part (neg y) ≡ pos_part y)
unfolding neg pos_part neg_part magnitude
neg_swaps nan p = absurd p
neg_swaps (inf s) p = absurd p
neg_swaps (fin false m e) p = (refl, refl)
neg_swaps (fin true m e) p = (refl, refl)

pub sub_near : (x y : Float) → Whole x → Whole y → magnitude x + magnitude y < top → Near (x ⊖ y) (pos_part x + neg_part y) (neg_part x + pos_part y) 1 eps
unfolding sub
sub_near x y p q h =
    let e = neg_swaps y q in
    shifted (x ⊖ y) (pos_part x + pos_part (neg y)) (neg_part x + neg_part (neg y)) 1 eps (pos_part x + neg_part y) (neg_part x + pos_part y)
    (add_near x (neg y) p (neg_whole y q) (subst (λ (z : ℕ). magnitude x + z < top) (sym (neg_magnitude y)) h)) (omega arith)

-- ---- the product and the quotient
module _ (a b l X Y de dd : ℕ) (p : a * l ≡ X * de) (q : b * l ≡ Y * dd) where
  product_units : a * b * l * l ≡ X * Y * (de * dd)
  product_units = let k : a * l * (b * l) ≡ X * de * (Y * dd) = ap₂ (λ (u v : ℕ). u * v) p q in omega arith

  quotient_units : a * dd * l * Y ≡ X * l * (b * de)
  quotient_units = let k : a * l * (Y * dd) ≡ X * de * (b * l) = ap₂ (λ (u v : ℕ). u * v) p (sym q) in omega arith

pub mul_rounded : (x y : Float) → Whole x → Whole y → Rounded (x ⊗ y) (unlike (sign x) (sign y)) (magnitude x * magnitude y) (2 ^ 149)
mul_rounded nan y p q = absurd p
mul_rounded (inf s) y p q = absurd p
mul_rounded (fin s m e) nan p q = absurd q
mul_rounded (fin s m e) (inf t) p q = absurd q
mul_rounded (fin s m e) (fin t n d) p q =
    record {
      a = m * up e * (n * up d);
      c = down e * down d;
      is = unfold mul in refl;
      divisor = mul-pos (down_pos e) (down_pos d);
      units = product_units (m * up e) (n * up d) (2 ^ 149) (magnitude (fin s m e)) (magnitude (fin t n d)) (down e) (down d) p q;
    }

div_open : (s t : Bool) (m : ℕ) (e : ℤ) (n : ℕ) (d : ℤ) → 0 < n → fin s m e ⊘ fin t n d ≡ round binary32 (unlike s t) (m * up e * down d) (n * up d * down e)
unfolding div
div_open s t m e n d h = rw (ne_eqb n 0 (λ e. omega arith))

magnitude_pos : (s : Bool) (n : ℕ) (d : ℤ) → Whole (fin s n d) → 0 < magnitude (fin s n d) → 0 < n
magnitude_pos s zero d p h =
    absurd (none (magnitude (fin s zero d)) (down d) (sym (ap (λ (z : ℕ). z * 2 ^ 149) (zero-mul (up d)) ∙ zero-mul (2 ^ 149)) ∙ p) h (down_pos d))
  where
    none : (m c : ℕ) → 0 ≡ m * c → 0 < m → 0 < c → ⊥
    none m c e a b = let k = mul-pos a b in omega arith
magnitude_pos s (suc n) d p h = zero-lt-suc n

pub div_rounded : (x y : Float) → Whole x → Whole y → 0 < magnitude y → Rounded (x ⊘ y) (unlike (sign x) (sign y)) (magnitude x * 2 ^ 149) (magnitude y)
div_rounded nan y p q g = absurd p
div_rounded (inf s) y p q g = absurd p
div_rounded (fin s m e) nan p q g = absurd q
div_rounded (fin s m e) (inf t) p q g = absurd q
div_rounded (fin s m e) (fin t n d) p q g =
    let N = magnitude_pos t n d q g in
    record {
      a = m * up e * down d;
      c = n * up d * down e;
      is = div_open s t m e n d N;
      divisor = mul-pos (mul-pos N (up_pos d)) (down_pos e);
      units = quotient_units (m * up e) (n * up d) (2 ^ 149) (magnitude (fin s m e)) (magnitude (fin t n d)) (down e) (down d) p q;
    }

fraction_pos : (y : Float) (Y W : ℕ) → Fraction y Y W → 0 < magnitude y
fraction_pos y Y W q = go (magnitude y) W (Y * 2 ^ 149) q.is (mul-pos q.above (pow_pos 149))
  where
    go : (m w z : ℕ) → m * w ≡ z → 0 < z → 0 < m
    go zero w z e h = let k = zero-mul w in absurd (omega arith)
    go (suc m) w z e h = zero-lt-suc m

-- by a number above zero
ratio_near : {r : Float} (x y : Float) (A B : ℕ) → sign y ≡ false → Rounded r (unlike (sign x) (sign y)) (magnitude x * A) B → magnitude x * A < top * B → Near r (pos_part x * A) (neg_part x * A) B eps
unfolding pos_part neg_part
ratio_near {r} x y A B e h l = shifted r _ _ B eps _ _ (round_near h l) (rw e (signed (sign x) (magnitude x)))
  where
    signed : (s : Bool) (X : ℕ) → pos_if (unlike s false) (X * A) + neg_if s X * A ≡ pos_if s X * A + neg_if (unlike s false) (X * A)
    signed false X = omega arith
    signed true X = omega arith

-- Z is X times Yu, and y, which is Yu / l, is Y / W
by_fraction : (X Yu l Y W : ℕ) → Yu * W ≡ Y * l → X * Yu * W ≡ X * Y * l
by_fraction X Yu l Y W q = let e = ap (λ (z : ℕ). X * z) q in omega arith

pub mul_near : (x y : Float) (Y W : ℕ) → Whole x → Fraction y Y W → magnitude x * Y < top * W → Near (x ⊗ y) (pos_part x * Y) (neg_part x * Y) W eps
mul_near x y Y W p q h =
    ratio_near x y Y W q.plus (rescaled (magnitude x * Y) W (mul_rounded x y p q.whole) (pow_pos 149) (by_fraction (magnitude x) (magnitude y) (2 ^ 149) Y W q.is)) h

pub div_near : (x y : Float) (Y W : ℕ) → Whole x → Fraction y Y W → magnitude x * W < top * Y → Near (x ⊘ y) (pos_part x * W) (neg_part x * W) Y eps
div_near x y Y W p q h =
    let g = fraction_pos y Y W q in
    ratio_near x y W Y q.plus (rescaled (magnitude x * W) Y (div_rounded x y p q.whole g) g (by_fraction (magnitude x) (2 ^ 149) (magnitude y) W Y (mul_comm (2 ^ 149) Y ∙ sym q.is ∙ mul_comm (magnitude y) W))) h

-- ---- comparison: exactly one of the two holds, so a comparison that failed says the other
pub lt_true : (x y : Float) → Whole x → Whole y → T (lt x y) → pos_part x + neg_part y < pos_part y + neg_part x
unfolding pos_part neg_part
lt_true x y p q h = let k = shared x y p q in below_true k.a k.b k.c (magnitude x) (magnitude y) k.divisor k.left k.right (sign x) (sign y) (rw k.belows at h)

pub lt_false : (x y : Float) → Whole x → Whole y → T (not (lt x y)) → pos_part y + neg_part x ≤ pos_part x + neg_part y
unfolding pos_part neg_part
lt_false x y p q h = let k = shared x y p q in below_false k.a k.b k.c (magnitude x) (magnitude y) k.divisor k.left k.right (sign x) (sign y) (rw k.belows at h)

pub eq_true : (x y : Float) → Whole x → Whole y → T (eq x y) → pos_part x + neg_part y ≡ pos_part y + neg_part x
unfolding pos_part neg_part
eq_true x y p q h = let k = shared x y p q in level_true k.a k.b k.c (magnitude x) (magnitude y) k.divisor k.left k.right (sign x) (sign y) (rw k.levels at h)

-- ---- a product with zero is zero, and products commute
zero_value : (x : Float) (s : Bool) (c : ℕ) → 0 < c → HasValue x s 0 c → AtMost x 0
zero_value nan s c C h = absurd h
zero_value (inf t) s c C h = absurd h
zero_value (fin t m e) s c C h =
    let k : m * up e ≡ 0 = eq_of_mul-eq-mul_right c C (m * up e) 0 (h.1 ∙ zero-mul (down e) ∙ sym (zero-mul c)) in
    let z : m * up e * 2 ^ 149 ≡ 0 * down e = ap (λ (v : ℕ). v * 2 ^ 149) k ∙ zero-mul (2 ^ 149) ∙ sym (zero-mul (down e)) in
    let v = value_is (fin t m e) t 0 (refl, z) in
    record { whole = v.0; size = le_of_eq (size_is (fin t m e) ∙ v.1 ∙ sym (mul-zero eps)) }

no_units : (a l X Y c : ℕ) → 0 < l → a * l * l ≡ X * Y * c → X ≡ 0 → a ≡ 0
no_units a l X Y c L q z = eq_of_mul-eq-mul_right (l * l) (mul-pos L L) a 0 (let k = ap (λ (v : ℕ). v * Y * c) z in omega arith)

pub zero_times : (x y : Float) → AtMost x 0 → Whole y → AtMost (x ⊗ y) 0
zero_times x y p q =
    let r = mul_rounded x y p.whole q in
    let s = unlike (sign x) (sign y) in
    let z = no_units r.a (2 ^ 149) (magnitude x) (magnitude y) r.c (pow_pos 149) r.units (omega (arith, size_is x, p.size)) in
    zero_value (x ⊗ y) s r.c r.divisor (rw (r.is, z) (round_exact binary32 s 0 r.c 0 0 r.divisor (pow_pos 24) (pow_pos 277) (sym (zero-mul r.c))))

unlike_flip : (s t : Bool) → unlike s t ≡ unlike t s
unlike_flip true true = refl
unlike_flip true false = refl
unlike_flip false true = refl
unlike_flip false false = refl

pub mul_flip : (x y : Float) → Whole x → Whole y → x ⊗ y ≡ y ⊗ x
unfolding mul
mul_flip nan y p q = absurd p
mul_flip (inf s) y p q = absurd p
mul_flip (fin s m e) nan p q = absurd q
mul_flip (fin s m e) (inf t) p q = absurd q
mul_flip (fin s m e) (fin t n d) p q = rw (unlike_flip s t, mul_comm (m * up e) (n * up d), mul_comm (down e) (down d))

pub times_zero : (x y : Float) → Whole x → AtMost y 0 → AtMost (x ⊗ y) 0
times_zero x y p q = rw (mul_flip x y p q.whole) (zero_times y x q p)
