-- Ranges of formulas: a rule for each operation, so that a proof has the formula's own shape. A side condition is a closed test, answered by `tt`.
-- Each operation widens a range by 1/256 at most; `in_more` rounds one off.
use mathlib.Core.Path.{◌≡◌, sym, ap, ◌∙◌, subst}
use Prim.Native.Nat.{ℕ, ◌+◌, ◌-◌, ◌*◌, ◌/◌, ◌^◌, ◌≤◌, ◌<◌, min, max}
use native.Mathlib.Nat.{min-le_left, min-le_right, le-max_left, le-max_right, mul-add, sub-add_cancel, le_trans, le_of_eq, mul-le-mul_left, mul-le-mul_right, le_of_mul-le-mul_right}
use native.Mathlib.Omega.{arith, min_cases, max_cases}
use mathlib.Core.Bool.{Bool, true, false, not, ◌&&◌, cond, not-not}
use mathlib.Core.Logic.{◌⊎◌, inl, inr}
use lib.Dec.{T, not_T, leb, ltb, leb→le, ltb→lt}
use lib.Ieee.{Float, nan, inf, fin, binary32, up, down, unlike, neg, mul, lt, le, fits, is_nan}
use lib.Ieee.Fits.{and_l, and_r, mul-fits}
use lib.Ieee.Scale.{finite}
use Rattle.prelude.proofs.Booleans.{either, by_test, and_three, all_four}
use Rattle.float.specs.Float.{◌⊕◌, ◌⊖◌, ◌⊗◌, ◌⊘◌, k0}
use Rattle.geometry.specs.declared.Rect.{Rect}
use Rattle.geometry.specs.Rect.{new_of}
use Rattle.float.specs.MinMax.{min_of, max_of, clamp_of}
use Rattle.float.proofs.Ends.{not_lt_le, finite_number, finite_between}
use Rattle.numerics.specs.Value.{magnitude, sign, Whole, pos_part, neg_part, eps, limit, AtMost, Fraction, P, N, Le}
use Rattle.numerics.specs.Rects.{max_corner, max_side, Element, max_area, Placed}
use Rattle.numerics.specs.Range.{In, at, minus, reach}
use Rattle.numerics.proofs.Rounding.{round_ind}
use Rattle.numerics.proofs.Operations.{Near, fits_whole, whole_finite, neg_whole, neg_swaps, one_zero, mul_flip}
use Rattle.numerics.proofs.Bounds.{add_bounded, sub_bounded, mul_bounded, div_bounded, lt_not, le_law, le_not, min_ind, max_ind, eps_pos, zero_most, most_more}

in_most : (x : Float) (a b n : ℕ) → In x a b → limit ≤ a + n → b ≤ limit + n → AtMost x n
in_most x a b n i h k = record { whole = i.whole; size = go (one_zero x) (mul-le-mul_left eps h) (mul-le-mul_left eps k) }
  where
    go : (pos_part x ≡ 0) ⊎ (neg_part x ≡ 0) → eps * limit ≤ eps * (a + n) → eps * b ≤ eps * (limit + n) → pos_part x + neg_part x ≤ eps * n
    go (inl z) s t = omega (arith, i.lo)
    go (inr z) s t = omega (arith, i.hi)

reach_lo : (a b : ℕ) → limit ≤ a + reach a b
reach_lo a b = omega arith

reach_hi : (a b : ℕ) → b ≤ limit + reach a b
reach_hi a b = omega arith

pub in_reach : {x : Float} {a b : ℕ} → In x a b → AtMost x (reach a b)
in_reach {x} {a} {b} i = in_most x a b (reach a b) i (reach_lo a b) (reach_hi a b)

in_le : {x : Float} {a b : ℕ} (a' b' : ℕ) → In x a b → a' ≤ a → b ≤ b' → In x a' b'
in_le a' b' i s t =
    let k = mul-le-mul_left eps s in
    let l = mul-le-mul_left eps t in
    record { whole = i.whole; lo = omega (arith, i.lo, k); hi = omega (arith, i.hi, l) }

-- a wider range
pub in_more : {x : Float} {a b : ℕ} (a' b' : ℕ) → In x a b → T (leb a' a) → T (leb b b') → In x a' b'
in_more {x} {a} {b} a' b' i s t = in_le a' b' i (leb→le a' a s) (leb→le b b' t)

pub most_in : {x : Float} {n : ℕ} → AtMost x n → T (leb n limit) → In x (limit - n) (limit + n)
most_in {x} {n} f t =
    let k = f.size in
    let l : eps * (limit - n) + eps * n ≤ eps * limit = le_trans (le_of_eq (sym (mul-add eps (limit - n) n))) (mul-le-mul_left eps (le_of_eq (sub-add_cancel (leb→le n limit t)))) in
    record { whole = f.whole; lo = omega arith; hi = omega arith }

-- ---- the sum and the difference
times_sub : (e c k : ℕ) → k ≤ c → e * (c - k) + e * k ≡ e * c
times_sub e c k h = sym (mul-add e (c - k) k) ∙ ap (λ (z : ℕ). e * z) (sub-add_cancel h)

abbrev pub addable : ℕ → ℕ → ℕ → ℕ → Bool
addable a b a' b' = ltb (reach a b + reach a' b') limit && (leb (limit + 1) (a + a') && leb limit (b + b' + 1))

pub add_in : {x y : Float} {a b a' b' : ℕ} → In x a b → In y a' b' → T (addable a b a' b') → In (x ⊕ y) (a + a' - (limit + 1)) (b + b' + 1 - limit)
add_in {x} {y} {a} {b} {a'} {b'} i j t =
    let r = and_three (ltb (reach a b + reach a' b') limit) (leb (limit + 1) (a + a')) (leb limit (b + b' + 1)) t in
    let n = add_bounded (in_reach i) (in_reach j) r.0 in
    let k = times_sub eps (a + a') (limit + 1) (leb→le (limit + 1) (a + a') r.1) in
    let l = times_sub eps (b + b' + 1) limit (leb→le limit (b + b' + 1) r.2) in
    record { whole = n.whole; lo = omega (arith, n.under, i.lo, j.lo, k); hi = omega (arith, n.over, i.hi, j.hi, l) }

abbrev pub subable : ℕ → ℕ → ℕ → ℕ → Bool
subable a b a' b' = ltb (reach a b + reach a' b') limit && (leb (b' + 1) (a + limit) && leb a' (b + limit + 1))

pub sub_in : {x y : Float} {a b a' b' : ℕ} → In x a b → In y a' b' → T (subable a b a' b') → In (x ⊖ y) (a + limit - (b' + 1)) (b + limit + 1 - a')
sub_in {x} {y} {a} {b} {a'} {b'} i j t =
    let r = and_three (ltb (reach a b + reach a' b') limit) (leb (b' + 1) (a + limit)) (leb a' (b + limit + 1)) t in
    let n = sub_bounded (in_reach i) (in_reach j) r.0 in
    let k = times_sub eps (a + limit) (b' + 1) (leb→le (b' + 1) (a + limit) r.1) in
    let l = times_sub eps (b + limit + 1) a' (leb→le a' (b + limit + 1) r.2) in
    record { whole = n.whole; lo = omega (arith, n.under, i.lo, j.hi, k); hi = omega (arith, n.over, i.hi, j.lo, l) }

-- the lower end of a difference gives one to its first number
pub sub_back : {x y : Float} {a b c d e f : ℕ} (k : ℕ) → In x a b → In y c d → In (x ⊖ y) e f → T (ltb (reach a b + reach c d) limit) → T (leb (k + (limit + 1)) (e + c)) → In x k b
sub_back {x} {y} {a} {b} {c} {d} {e} k i j r s t =
    let n = sub_bounded (in_reach i) (in_reach j) s in
    let m = mul-le-mul_left eps (leb→le (k + (limit + 1)) (e + c) t) in
    record { whole = i.whole; lo = omega (arith, n.over, j.lo, r.lo, m); hi = i.hi }

-- ---- the product by a fraction A / B, and the quotient: the range is worked out, and checked
abbrev pub low_by : ℕ → ℕ → ℕ → ℕ
low_by a A B = (a * A + limit * B - (limit * A + B)) / B

abbrev pub high_by : ℕ → ℕ → ℕ → ℕ
high_by b A B = (b * A + limit * B + B + B - (limit * A + 1)) / B

abbrev pub into : ℕ → ℕ → ℕ → ℕ → ℕ → ℕ → Bool
into a b A B a' b' = ltb (reach a b * A) (limit * B) && (leb (a' * B + limit * A + B) (a * A + limit * B) && leb (b * A + limit * B + B) (b' * B + limit * A))

abbrev pub scalable : ℕ → ℕ → ℕ → ℕ → Bool
scalable a b A B = into a b A B (low_by a A B) (high_by b A B)

ratio_in : {r x : Float} {a b B : ℕ} (A a' b' : ℕ) → 0 < B → In x a b → (T (ltb (reach a b * A) (limit * B)) → Near r (pos_part x * A) (neg_part x * A) B eps) → T (into a b A B a' b') → In r a' b'
ratio_in {r} {x} {a} {b} {B} A a' b' D i m t =
    let s = and_three (ltb (reach a b * A) (limit * B)) (leb (a' * B + limit * A + B) (a * A + limit * B)) (leb (b * A + limit * B + B) (b' * B + limit * A)) t in
    let n = m s.0 in
    let k = mul-le-mul_left eps (leb→le (a' * B + limit * A + B) (a * A + limit * B) s.1) in
    let l = mul-le-mul_left eps (leb→le (b * A + limit * B + B) (b' * B + limit * A) s.2) in
    let u = mul-le-mul_right A i.lo in
    let v = mul-le-mul_right A i.hi in
    let y : (eps * a' + neg_part r) * B ≤ (pos_part r + eps * limit) * B = omega (arith, n.under, k, u) in
    let z : (pos_part r + eps * limit) * B ≤ (neg_part r + eps * b') * B = omega (arith, n.over, l, v) in
    record { whole = n.whole; lo = le_of_mul-le-mul_right y D; hi = le_of_mul-le-mul_right z D }

pub mul_in : {x y : Float} {a b A B : ℕ} → In x a b → Fraction y A B → T (scalable a b A B) → In (x ⊗ y) (low_by a A B) (high_by b A B)
mul_in {a = a} {b = b} {A = A} {B = B} i f t = ratio_in A (low_by a A B) (high_by b A B) f.below i (mul_bounded (in_reach i) f) t

pub div_in : {x y : Float} {a b A B : ℕ} → In x a b → Fraction y A B → T (scalable a b B A) → In (x ⊘ y) (low_by a B A) (high_by b B A)
div_in {a = a} {b = b} {A = A} {B = B} i f t = ratio_in B (low_by a B A) (high_by b B A) f.above i (div_bounded (in_reach i) f) t

-- a constant on the left
pub times_in : {x y : Float} {a b A B : ℕ} → Fraction y A B → In x a b → T (scalable a b A B) → In (y ⊗ x) (low_by a A B) (high_by b A B)
times_in {x} {y} f i t = rw (mul_flip y x f.whole i.whole) (mul_in i f t)

-- ---- the lesser, the greater
nat_min_ind : (a b : ℕ) (C : ℕ → Type 0) → C a → C b → C (min a b)
nat_min_ind a b C p q = min_cases a b (C (min a b)) (λ h e. subst C (sym e) p) (λ h e. subst C (sym e) q)

nat_max_ind : (a b : ℕ) (C : ℕ → Type 0) → C a → C b → C (max a b)
nat_max_ind a b C p q = max_cases a b (C (max a b)) (λ h e. subst C (sym e) q) (λ h e. subst C (sym e) p)

raw : (x y : Float) → Le 1 x y → pos_part x + neg_part y ≤ pos_part y + neg_part x
unfolding P N
raw x y h = omega arith

pub min_in : {x y : Float} {a b a' b' : ℕ} → In x a b → In y a' b' → In (min_of x y) (min a a') (min b b')
min_in {x} {y} {a} {b} {a'} {b'} i j =
    let k = mul-le-mul_left eps (min-le_left a a') in
    let l = mul-le-mul_left eps (min-le_right a a') in
    min_ind 1 x y i.whole j.whole (λ z. In z (min a a') (min b b'))
    (λ h. record { whole = i.whole; lo = omega (arith, i.lo, k); hi = nat_min_ind b b' (λ m. pos_part x + eps * limit ≤ neg_part x + eps * m) i.hi (omega (arith, raw x y h, j.hi)) })
    (λ h. record { whole = j.whole; lo = omega (arith, j.lo, l); hi = nat_min_ind b b' (λ m. pos_part y + eps * limit ≤ neg_part y + eps * m) (omega (arith, raw y x h, i.hi)) j.hi })

pub max_in : {x y : Float} {a b a' b' : ℕ} → In x a b → In y a' b' → In (max_of x y) (max a a') (max b b')
max_in {x} {y} {a} {b} {a'} {b'} i j =
    let k = mul-le-mul_left eps (le-max_left b b') in
    let l = mul-le-mul_left eps (le-max_right b b') in
    max_ind 1 x y i.whole j.whole (λ z. In z (max a a') (max b b'))
    (λ h. record { whole = i.whole; hi = omega (arith, i.hi, k); lo = nat_max_ind a a' (λ m. eps * m + neg_part x ≤ pos_part x + eps * limit) i.lo (omega (arith, raw y x h, j.lo)) })
    (λ h. record { whole = j.whole; hi = omega (arith, j.hi, l); lo = nat_max_ind a a' (λ m. eps * m + neg_part y ≤ pos_part y + eps * limit) (omega (arith, raw x y h, i.lo)) j.lo })

-- ---- a test that a number passed gives it another's range at one end
pub raise : {x l : Float} {a b a' b' : ℕ} → In x a b → In l a' b' → Le 1 l x → In x a' b
raise {x} {l} i j h = record { whole = i.whole; lo = omega (arith, j.lo, raw l x h); hi = i.hi }

lower : {x h : Float} {a b a' b' : ℕ} → In x a b → In h a' b' → Le 1 x h → In x a b'
lower {x} {h} i j k = record { whole = i.whole; lo = i.lo; hi = omega (arith, j.hi, raw x h k) }

pub not_below : {x l : Float} {a b a' b' : ℕ} → In x a b → In l a' b' → T (not (lt x l)) → In x a' b
not_below {x} {l} i j t = raise i j (lt_not 1 x l i.whole j.whole t)

pub above_zero : {y : Float} {a b : ℕ} → In y a b → T (ltb limit a) → T (le k0 y)
above_zero {y} {a} i t =
    rw (not-not (le k0 y)) at (not_T (not (le k0 y)) (λ n.
    let j = lower i (most_in zero_most tt) (le_not 1 k0 y zero_most.whole i.whole n) in
    omega (arith, j.lo, j.hi, mul-le-mul_left eps (ltb→lt limit a t), eps_pos)))

-- ---- between two others
between : {x l h : Float} {a b a' b' : ℕ} → Whole x → In l a b → In h a' b' → T (not (lt x l)) → T (not (lt h x)) → In x a b'
between {x} {l} {h} p i j s t =
    record { whole = p; lo = omega (arith, i.lo, raw l x (lt_not 1 x l p i.whole s)); hi = omega (arith, j.hi, raw x h (lt_not 1 h x j.whole p t)) }

clamp_ind : (x l h : Float) (C : Float → Type 0) → C l → C h → (T (not (lt x l)) → T (not (lt h x)) → C x) → C (clamp_of x l h)
unfolding clamp_of
clamp_ind x l h C p q r = by_test (λ y. C (cond (lt h y) h y)) (lt x l) (λ s. either C (lt h l) q p) (λ s. by_test C (lt h x) (λ t. q) (r s))

clamped : (x : Float) {l h : Float} {a b a' b' : ℕ} → In l a b → In h a' b' → (T (not (lt x l)) → T (not (lt h x)) → Whole x) → In (clamp_of x l h) (min a a') (max b b')
clamped x {l} {h} {a} {b} {a'} {b'} i j p =
    clamp_ind x l h (λ z. In z (min a a') (max b b')) (in_le _ _ i (min-le_left a a') (le-max_left b b')) (in_le _ _ j (min-le_right a a') (le-max_right b b'))
    (λ s t. in_le _ _ (between (p s t) i j s t) (min-le_left a a') (le-max_right b b'))

-- a value that is no NaN, finite or not, is brought into the range; a b of the lower end, a' b' of the upper
clamp_any_in : (x : Float) {l h : Float} {a b a' b' : ℕ} → T (not (is_nan x)) → T (fits binary32 x) → In l a b → In h a' b' → In (clamp_of x l h) (min a a') (max b b')
clamp_any_in x {l} {h} n f i j =
    clamped x i j (λ s t. fits_whole x (own (whole_finite l i.whole) (whole_finite h j.whole) s t) f)
  where
    own : T (finite l) → T (finite h) → T (not (lt x l)) → T (not (lt h x)) → T (finite x)
    own p q s t = finite_between l x h p q (not_lt_le l x (finite_number l p) n s) (not_lt_le x h n (finite_number h q) t)

-- a finite value
pub clamp_whole_in : (x : Float) {l h : Float} {a b a' b' : ℕ} → Whole x → In l a b → In h a' b' → In (clamp_of x l h) (min a a') (max b b')
clamp_whole_in x p i j = clamped x i j (λ s t. p)

pub clamp_in : {x l h : Float} {c e a b a' b' : ℕ} → In x c e → In l a b → In h a' b' → In (clamp_of x l h) (min a a') (max b b')
clamp_in {x} u i j = clamp_whole_in x u.whole i j

-- a literal, by computation
pub literal : {x : Float} {a b : ℕ} → Whole x → T (leb (eps * a + neg_part x) (pos_part x + eps * limit)) → T (leb (pos_part x + eps * limit) (neg_part x + eps * b)) → In x a b
literal {x} {a} {b} p s t = record { whole = p; lo = leb→le (eps * a + neg_part x) (pos_part x + eps * limit) s; hi = leb→le (pos_part x + eps * limit) (neg_part x + eps * b) t }

-- the same for a fraction
pub fraction : {y : Float} {Y W : ℕ} → Whole y → sign y ≡ false → magnitude y * W ≡ Y * 2 ^ 149 → T (leb 1 Y) → T (leb 1 W) → Fraction y Y W
fraction {Y = Y} {W = W} p q e s t = record { whole = p; plus = q; is = e; above = leb→le 1 Y s; below = leb→le 1 W t }

-- a choice
pub cond_in : {x y : Float} {a b a' b' : ℕ} (t : Bool) → In x a b → In y a' b' → In (cond t x y) (min a a') (max b b')
cond_in {a = a} {b = b} {a' = a'} {b' = b'} true i j = in_le _ _ i (min-le_left a a') (le-max_left b b')
cond_in {a = a} {b = b} {a' = a'} {b' = b'} false i j = in_le _ _ j (min-le_right a a') (le-max_right b b')

-- from -n / 256 to n / 256
abbrev pub small : ℕ → ℕ → ℕ → Bool
small n a b = leb limit (a + n) && leb b (limit + n)

pub range_most : (n : ℕ) {x : Float} {a b : ℕ} → In x a b → T (small n a b) → AtMost x n
range_most n {x} {a} {b} i t =
    let t1 : Bool = leb limit (a + n) in
    let t2 : Bool = leb b (limit + n) in
    in_most x a b n i (leb→le limit (a + n) (and_l t1 t2 t)) (leb→le b (limit + n) (and_r t1 t2 t))

-- ---- a number that passed the tests of an order
pub tested : (x : Float) {l h : Float} {a b a' b' : ℕ} → T (fits binary32 x) → In l a b → In h a' b' → T (le l x) → T (le x h) → In x a b'
tested x {l} {h} f i j s t =
    let p = fits_whole x (finite_between l x h (whole_finite l i.whole) (whole_finite h j.whole) s t) f in
    record { whole = p; lo = omega (arith, i.lo, raw l x (le_law 1 l x i.whole p s)); hi = omega (arith, j.hi, raw x h (le_law 1 x h p j.whole t)) }

-- ---- a product of two finite numbers is no NaN
pub mul_not_nan : (x y : Float) → T (finite x) → T (finite y) → T (not (is_nan (x ⊗ y)))
unfolding mul is_nan
mul_not_nan nan y p q = absurd p
mul_not_nan (inf s) y p q = absurd p
mul_not_nan (fin s m e) nan p q = absurd q
mul_not_nan (fin s m e) (inf t) p q = absurd q
mul_not_nan (fin s m e) (fin t n d) p q = round_ind (λ z. T (not (is_nan z))) binary32 (unlike s t) (m * up e * (n * up d)) (down e * down d) tt (λ k g. tt)

-- a saved number: any finite x times w, brought between l and h
pub saved_in : (x w : Float) {l h : Float} {a b a' b' : ℕ} → T (finite x) → T (finite w) → In l a b → In h a' b' → In (clamp_of (x ⊗ w) l h) (min a a') (max b b')
saved_in x w p q i j = clamp_any_in (x ⊗ w) (mul_not_nan x w p q) (mul-fits binary32 x w) i j

-- ---- a rectangle that was moved: its edge is at least 0, and its far edge at most w
pub moved_in : {x r w : Float} {n a b c e : ℕ} → AtMost x n → In r a b → In w c e → T (ltb (n + reach a b) limit) → T (leb a (e + (limit + 1))) → T (le k0 x) → T (le (x ⊕ r) w) → In x limit (e + (limit + 1) - a)
moved_in {x} {r} {w} {n} {a} {b} {c} {e} f i j t u s v =
    let k = add_bounded f (in_reach i) t in
    let l = raw (x ⊕ r) w (le_law 1 (x ⊕ r) w k.whole j.whole v) in
    let z = raw k0 x (le_law 1 k0 x zero_most.whole f.whole s) in
    let o = times_sub eps (e + (limit + 1)) a (leb→le a (e + (limit + 1)) u) in
    record { whole = f.whole; lo = omega (arith, z, zero_most.size); hi = omega (arith, k.under, l, i.lo, j.hi, o) }

-- ---- the sign turned
pub neg_in : {x : Float} {a b : ℕ} → In x a b → T (leb a (limit + limit) && leb b (limit + limit)) → In (neg x) ((limit + limit) - b) ((limit + limit) - a)
neg_in {x} {a} {b} i t =
    let v = neg_swaps x i.whole in
    let k = times_sub eps (limit + limit) b (leb→le b (limit + limit) (and_r (leb a (limit + limit)) (leb b (limit + limit)) t)) in
    let l = times_sub eps (limit + limit) a (leb→le a (limit + limit) (and_l (leb a (limit + limit)) (leb b (limit + limit)) t)) in
    record { whole = neg_whole x i.whole; lo = omega (arith, i.hi, v, k); hi = omega (arith, i.lo, v, l) }

-- ---- a side of a screen, and of a picture's area
pub from_zero : {x : Float} → In x (at 1) (at 8192) → In x (at 0) (at 8192)
from_zero i = in_more (at 0) (at 8192) i tt tt

pub area_side : {x : Float} → AtMost x max_area → T (le k0 x) → In x (at 0) (at 8192)
area_side {x} m t = raise (most_in m tt) (most_in zero_most tt) (le_law 1 k0 x zero_most.whole m.whole t)

-- ---- a rectangle by the ranges of its numbers
pub element_in : {x y w h : Float} {a b a' b' c d c' d' : ℕ} → In x a b → In y a' b' → In w c d → In h c' d'
    → T (small max_corner a b && (small max_corner a' b' && (small max_side c d && small max_side c' d'))) → Element (new_of x y w h)
element_in {a = a} {b = b} {a' = a'} {b' = b'} {c = c} {d = d} {c' = c'} {d' = d'} i j k l t =
    let s = all_four (small max_corner a b) (small max_corner a' b') (small max_side c d) (small max_side c' d') t in
    record { x = range_most max_corner i s.0; y = range_most max_corner j s.1; w = range_most max_side k s.2; h = range_most max_side l s.3 }

abbrev pub encloses : ℕ → ℕ → ℕ → ℕ → Bool
encloses a' b' a b = leb a' a && leb b b'

pub in_wide : {x : Float} {a b a' b' : ℕ} → In x a b → T (encloses a' b' a b) → In x a' b'
in_wide {a = a} {b = b} {a' = a'} {b' = b'} i t = in_more a' b' i (and_l (leb a' a) (leb b b') t) (and_r (leb a' a) (leb b b') t)

-- the same for an element of an arrangement
pub placed_in : {above m : ℕ} {x y w h : Float} {a b a' b' c d c' d' : ℕ} → In x a b → In y a' b' → In w c d → In h c' d'
    → T (encloses (minus m) (at (8192 + m)) a b && (encloses (minus (above + m)) (at (8192 + m)) a' b' && (small (max_area + m) c d && small (max_area + m) c' d'))) → Placed above m (new_of x y w h)
placed_in {above} {m} {a = a} {b = b} {a' = a'} {b' = b'} {c = c} {d = d} {c' = c'} {d' = d'} i j k l t =
    let s = all_four (encloses (minus m) (at (8192 + m)) a b) (encloses (minus (above + m)) (at (8192 + m)) a' b') (small (max_area + m) c d) (small (max_area + m) c' d') t in
    record { x = in_wide i s.0; y = in_wide j s.1; w = range_most (max_area + m) k s.2; h = range_most (max_area + m) l s.3 }

pub placed_element : {above m : ℕ} {e : Rect} → Placed above m e → T (small max_corner (minus m) (at (8192 + m)) && (small max_corner (minus (above + m)) (at (8192 + m)) && leb (max_area + m) max_side)) → Element e
placed_element {above} {m} P t =
    let s = and_three (small max_corner (minus m) (at (8192 + m))) (small max_corner (minus (above + m)) (at (8192 + m))) (leb (max_area + m) max_side) t in
    record { x = range_most max_corner P.x s.0; y = range_most max_corner P.y s.1; w = most_more P.w max_side s.2; h = most_more P.h max_side s.2 }
