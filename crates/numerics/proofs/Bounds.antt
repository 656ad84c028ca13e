-- The operations on bounded values, times a divisor d: each law is a record of inequalities that are linear in P, N and E, for `omega`. And the bounds of results.
-- `AtMost x n` bounds x by n / 256. The side condition of a law is a closed test, answered by `tt`: nothing passes 2^17.
use mathlib.Core.Path.{◌≡◌, refl, sym, ap, subst}
use Prim.Native.Nat.{ℕ, suc, ◌+◌, ◌*◌, ◌≤◌, ◌<◌}
use native.Mathlib.Nat.{le_of_mul-le-mul_right, le_trans, le_of_eq, le_of_lt, mul-le-mul_right, mul-le-mul_left, mul-pos, le_refl, zero-lt-suc, zero-mul}
use native.Mathlib.Omega.{arith}
use mathlib.Core.Bool.{false, not}
use mathlib.Core.Logic.{◌⊎◌, inl, inr}
use lib.Dec.{T, leb, ltb, leb→le, ltb→lt, lit≤, not_T}
use lib.Pow.{pow_pos}
use lib.Ieee.{Float, of_bits, lt, le, eq, ne}
use lib.Ieee.Compare.{differs_from_itself}
use lib.Ieee.Bits.{is_false}
use mir.Facts.{or_no}
use Rattle.prelude.proofs.Booleans.{by_test, or_case}
use Rattle.float.specs.Float.{◌⊕◌, ◌⊖◌, ◌⊗◌, ◌⊘◌, k0}
use Rattle.float.specs.MinMax.{min_of, max_of}
use Rattle.numerics.specs.Value.{magnitude, Whole, pos_part, neg_part, eps, top, limit, AtMost, Fraction, P, N, E, Le}
use Rattle.numerics.proofs.Operations.{Near, size_is, one_zero, add_near, sub_near, mul_near, div_near, lt_true, lt_false, eq_true}

pub eps_pos : 0 < eps
unfolding eps
eps_pos = pow_pos 141

pub top_eps : top ≡ eps * limit
unfolding top eps
top_eps = refl

pub most_magnitude : {x : Float} {n : ℕ} → AtMost x n → magnitude x ≤ eps * n
most_magnitude {x} h = rw (size_is x) at h.size

-- one of the two parts is 0, and so a bound on the difference is one on the sum
pub most_size : (d : ℕ) (x : Float) (n : ℕ) → AtMost x n → P d x + N d x ≤ E d * n
unfolding P N E
most_size d x n h = let k = mul-le-mul_right d h.size in omega arith

pub most_more : {x : Float} {n : ℕ} → AtMost x n → (m : ℕ) → T (leb n m) → AtMost x m
most_more {x} {n} h m t = record { whole = h.whole; size = le_trans h.size (mul-le-mul_left eps (leb→le n m t)) }

room : (x y : Float) (n m : ℕ) → AtMost x n → AtMost y m → T (ltb (n + m) limit) → magnitude x + magnitude y < top
room x y n m p q t =
    let a = most_magnitude p in
    let b = most_magnitude q in
    let c : eps * suc (n + m) ≤ eps * limit = mul-le-mul_left eps (ltb→lt (n + m) limit t) in
    let e = top_eps in
    let z = eps_pos in
    omega arith

room_mul : (x : Float) (n A B : ℕ) → AtMost x n → T (ltb (n * A) (limit * B)) → magnitude x * A < top * B
room_mul x n A B p t =
    let a : magnitude x * A ≤ eps * n * A = mul-le-mul_right A (most_magnitude p) in
    let c : eps * suc (n * A) ≤ eps * (limit * B) = mul-le-mul_left eps (ltb→lt (n * A) (limit * B) t) in
    let e : top * B ≡ eps * limit * B = ap (λ (z : ℕ). z * B) top_eps in
    let z = eps_pos in
    omega arith

-- ---- the operations, where there is room
pub add_bounded : {x y : Float} {n m : ℕ} → AtMost x n → AtMost y m → T (ltb (n + m) limit) → Near (x ⊕ y) (pos_part x + pos_part y) (neg_part x + neg_part y) 1 eps
add_bounded {x} {y} {n} {m} p q t = add_near x y p.whole q.whole (room x y n m p q t)

pub sub_bounded : {x y : Float} {n m : ℕ} → AtMost x n → AtMost y m → T (ltb (n + m) limit) → Near (x ⊖ y) (pos_part x + neg_part y) (neg_part x + pos_part y) 1 eps
sub_bounded {x} {y} {n} {m} p q t = sub_near x y p.whole q.whole (room x y n m p q t)

pub mul_bounded : {x y : Float} {n A B : ℕ} → AtMost x n → Fraction y A B → T (ltb (n * A) (limit * B)) → Near (x ⊗ y) (pos_part x * A) (neg_part x * A) B eps
mul_bounded {x} {y} {n} {A} {B} p q t = mul_near x y A B p.whole q (room_mul x n A B p t)

pub div_bounded : {x y : Float} {n A B : ℕ} → AtMost x n → Fraction y A B → T (ltb (n * B) (limit * A)) → Near (x ⊘ y) (pos_part x * B) (neg_part x * B) A eps
div_bounded {x} {y} {n} {A} {B} p q t = div_near x y A B p.whole q (room_mul x n B A p t)

-- ---- results over d: r is (A - B) / W but for 1/256
pub record Off (d : ℕ) (r : Float) (A B W : ℕ) : Type 0 where
  pub over : P d r * W + B ≤ N d r * W + A + E d * W
  pub under : N d r * W + A ≤ P d r * W + B + E d * W

near_off : (d : ℕ) {r : Float} {A B W : ℕ} (A' B' : ℕ) → Near r A B W eps → A * d ≡ A' → B * d ≡ B' → Off d r A' B' W
unfolding P N E
near_off d A' B' h p q =
    let a = mul-le-mul_right d h.over in
    let b = mul-le-mul_right d h.under in
    record { over = omega arith; under = omega arith }

abbrev pub Adds : ℕ → Float → Float → Float → Type 0
Adds d r x y = Off d r (P d x + P d y) (N d x + N d y) 1

abbrev pub Subs : ℕ → Float → Float → Float → Type 0
Subs d r x y = Off d r (P d x + N d y) (N d x + P d y) 1

-- the product by a fraction A / B, or the quotient by B / A
abbrev pub Muls : ℕ → Float → Float → ℕ → ℕ → Type 0
Muls d r x A B = Off d r (P d x * A) (N d x * A) B

pub add_law : (d : ℕ) {x y : Float} {n m : ℕ} → AtMost x n → AtMost y m → T (ltb (n + m) limit) → Adds d (x ⊕ y) x y
unfolding P N
add_law d p q t = near_off d _ _ (add_bounded p q t) (omega arith) (omega arith)

pub sub_law : (d : ℕ) {x y : Float} {n m : ℕ} → AtMost x n → AtMost y m → T (ltb (n + m) limit) → Subs d (x ⊖ y) x y
unfolding P N
sub_law d p q t = near_off d _ _ (sub_bounded p q t) (omega arith) (omega arith)

pub mul_law : (d : ℕ) {x y : Float} {n A B : ℕ} → AtMost x n → Fraction y A B → T (ltb (n * A) (limit * B)) → Muls d (x ⊗ y) x A B
unfolding P N
mul_law d p q t = near_off d _ _ (mul_bounded p q t) (omega arith) (omega arith)

pub div_law : (d : ℕ) {x y : Float} {n A B : ℕ} → AtMost x n → Fraction y A B → T (ltb (n * B) (limit * A)) → Muls d (x ⊘ y) x B A
unfolding P N
div_law d p q t = near_off d _ _ (div_bounded p q t) (omega arith) (omega arith)

-- ---- the size of a result: no larger than what it is near to, and e
pub near_magnitude : (r : Float) (P Q W e : ℕ) → Near r P Q W e → magnitude r * W ≤ P + Q + e * W
near_magnitude r P Q W e h = go (one_zero r) (ap (λ (z : ℕ). z * W) (size_is r))
  where
    go : (pos_part r ≡ 0) ⊎ (neg_part r ≡ 0) → (pos_part r + neg_part r) * W ≡ magnitude r * W → magnitude r * W ≤ P + Q + e * W
    go (inl z) m = let k = ap (λ (v : ℕ). v * W) z in omega (arith, h.under)
    go (inr z) m = let k = ap (λ (v : ℕ). v * W) z in omega (arith, h.over)

pub magnitude_most : {x : Float} {n : ℕ} → Whole x → magnitude x ≤ eps * n → AtMost x n
magnitude_most {x} p h = record { whole = p; size = rw (size_is x) h }

near_most : {r : Float} {P Q W : ℕ} (k : ℕ) → 0 < W → Near r P Q W eps → P + Q ≤ eps * k * W → AtMost r (k + 1)
near_most {r} {P} {Q} {W} k D h l =
    let m = near_magnitude r P Q W eps h in
    let z : magnitude r * W ≤ eps * (k + 1) * W = omega arith in
    magnitude_most h.whole (le_of_mul-le-mul_right z D)

pub add_most : {x y : Float} {n m : ℕ} → AtMost x n → AtMost y m → T (ltb (n + m) limit) → AtMost (x ⊕ y) (n + m + 1)
add_most {n = n} {m = m} p q t = near_most (n + m) (zero-lt-suc 0) (add_bounded p q t) (omega (arith, p.size, q.size))

pub sub_most : {x y : Float} {n m : ℕ} → AtMost x n → AtMost y m → T (ltb (n + m) limit) → AtMost (x ⊖ y) (n + m + 1)
sub_most {n = n} {m = m} p q t = near_most (n + m) (zero-lt-suc 0) (sub_bounded p q t) (omega (arith, p.size, q.size))

scaled_size : {x : Float} {n : ℕ} (A B k : ℕ) → AtMost x n → T (leb (n * A) (k * B)) → pos_part x * A + neg_part x * A ≤ eps * k * B
scaled_size {n = n} A B k p t =
    let a = mul-le-mul_right A p.size in
    let b = mul-le-mul_left eps (leb→le (n * A) (k * B) t) in
    omega arith

pub mul_most : {x y : Float} {n A B : ℕ} (k : ℕ) → AtMost x n → Fraction y A B → T (ltb (n * A) (limit * B)) → T (leb (n * A) (k * B)) → AtMost (x ⊗ y) (k + 1)
mul_most {A = A} {B = B} k p q t u = near_most k q.below (mul_bounded p q t) (scaled_size A B k p u)

pub div_most : {x y : Float} {n A B : ℕ} (k : ℕ) → AtMost x n → Fraction y A B → T (ltb (n * B) (limit * A)) → T (leb (n * B) (k * A)) → AtMost (x ⊘ y) (k + 1)
div_most {A = A} {B = B} k p q t u = near_most k q.above (div_bounded p q t) (scaled_size B A k p u)

-- ---- comparison, with equality left in: there is slack everywhere
le_over : (d : ℕ) (x y : Float) → pos_part x + neg_part y ≤ pos_part y + neg_part x → Le d x y
unfolding P N
le_over d x y h = let k = mul-le-mul_right d h in omega arith

pub lt_law : (d : ℕ) (x y : Float) → Whole x → Whole y → T (lt x y) → Le d x y
lt_law d x y p q t = le_over d x y (le_of_lt (lt_true x y p q t))

pub lt_not : (d : ℕ) (x y : Float) → Whole x → Whole y → T (not (lt x y)) → Le d y x
lt_not d x y p q t = le_over d y x (lt_false x y p q t)

pub eq_law : (d : ℕ) (x y : Float) → Whole x → Whole y → T (eq x y) → Le d x y × Le d y x
eq_law d x y p q t = let e = eq_true x y p q t in (le_over d x y (le_of_eq e), le_over d y x (le_of_eq (sym e)))

pub E_pos : (d : ℕ) → 0 < d → 0 < E d
unfolding E
E_pos d h = mul-pos eps_pos h

pub le_law : (d : ℕ) (x y : Float) → Whole x → Whole y → T (le x y) → Le d x y
unfolding le
le_law d x y p q t = or_case (lt x y) (eq x y) (lt_law d x y p q) (λ u. (eq_law d x y p q u).0) t

pub le_not : (d : ℕ) (x y : Float) → Whole x → Whole y → T (not (le x y)) → Le d y x
unfolding le
le_not d x y p q t = lt_not d x y p q (or_no (lt x y) (eq x y) t).0

-- ---- the lesser and the greater, the first on a tie, a number before a NaN
whole_same : (x : Float) → Whole x → ne x x ≡ false
whole_same x p = is_false (ne x x) (not_T (ne x x) (λ t. subst Whole (differs_from_itself x t) p))

-- what holds of x where x is the lesser, and of y where y is
pub min_ind : (d : ℕ) (x y : Float) → Whole x → Whole y → (C : Float → Type 0) → (Le d x y → C x) → (Le d y x → C y) → C (min_of x y)
unfolding min_of
min_ind d x y p q C f g = rw (whole_same x p) (by_test C (lt y x) (λ t. g (lt_law d y x q p t)) (λ t. f (lt_not d y x q p t)))

pub max_ind : (d : ℕ) (x y : Float) → Whole x → Whole y → (C : Float → Type 0) → (Le d y x → C x) → (Le d x y → C y) → C (max_of x y)
unfolding max_of
max_ind d x y p q C f g = rw (whole_same x p) (by_test C (lt x y) (λ t. g (lt_law d x y p q t)) (λ t. f (lt_not d x y p q t)))

pub record Lesser (d : ℕ) (z x y : Float) : Type 0 where
  pub first : Le d z x
  pub second : Le d z y

pub record Greater (d : ℕ) (z x y : Float) : Type 0 where
  pub first : Le d x z
  pub second : Le d y z

pub min_law : (d : ℕ) (x y : Float) → Whole x → Whole y → Lesser d (min_of x y) x y
min_law d x y p q = min_ind d x y p q (λ z. Lesser d z x y) (λ h. record { first = le_refl (P d x + N d x); second = h }) (λ h. record { first = h; second = le_refl (P d y + N d y) })

pub max_law : (d : ℕ) (x y : Float) → Whole x → Whole y → Greater d (max_of x y) x y
max_law d x y p q = max_ind d x y p q (λ z. Greater d z x y) (λ h. record { first = le_refl (P d x + N d x); second = h }) (λ h. record { first = h; second = le_refl (P d y + N d y) })

pub min_most : {x y : Float} {n : ℕ} → AtMost x n → AtMost y n → AtMost (min_of x y) n
min_most {x} {y} {n} p q = min_ind 1 x y p.whole q.whole (λ z. AtMost z n) (λ h. p) (λ h. q)

pub max_most : {x y : Float} {n : ℕ} → AtMost x n → AtMost y n → AtMost (max_of x y) n
max_most {x} {y} {n} p q = max_ind 1 x y p.whole q.whole (λ z. AtMost z n) (λ h. p) (λ h. q)

-- ---- a value between -n / 256 and n / 256
pub between_most : (x : Float) (n : ℕ) → Whole x → P 1 x ≤ N 1 x + E 1 * n → N 1 x ≤ P 1 x + E 1 * n → AtMost x n
between_most x n p h k = record { whole = p; size = unfold P N E in (go (one_zero x)) }
  where
    go : (pos_part x ≡ 0) ⊎ (neg_part x ≡ 0) → pos_part x + neg_part x ≤ eps * n
    go (inl z) = unfold P N E in (omega arith)
    go (inr z) = unfold P N E in (omega arith)

-- ---- zero
pub zero_most : AtMost k0 0
unfolding of_bits magnitude pos_part neg_part eps
zero_most = record { whole = refl; size = lit≤ tt }

pub zero_parts : (d : ℕ) → (P d k0 ≡ 0) × (N d k0 ≡ 0)
unfolding of_bits P N magnitude pos_part neg_part
zero_parts d = (zero-mul d, zero-mul d)
