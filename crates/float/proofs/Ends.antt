-- Laws of `<=`, by which a call of clamp shows that its ends are in order.
use Rattle.std.proofs.Common.{◌≡◌, refl, ℕ, ◌+◌, ◌-◌, ◌*◌, ◌<◌, ◌≤◌, Bool, true, false, cond, not, ◌&&◌, ◌||◌, T, eqb, ltb, mul-pos, arith, eqb→eq, nltb→le, le-ltb}
use lib.Arith.{le→nltb}
use lib.Dec.{not_T}
use lib.Ieee.{Float, nan, inf, fin, binary32, up, down, below, level, round, sum, neg, add, sub, lt, le, eq, ne, is_nan, of_bits}
use lib.Ieee.Bits.{is_false}
use lib.Ieee.Fits.{and_i, and_l, and_r, eq→eqb, down_pos}
use lib.Ieee.Order.{round_mono}
use lib.Ieee.Scale.{finite, round_same}
use Rattle.prelude.proofs.Booleans.{either, by_test}
use Rattle.float.specs.Float.{◌⊖◌, k0}
use Rattle.float.specs.MinMax.{min_of, max_of, clamp_of}
use Rattle.float.proofs.Nan.{no_nan}
use Rattle.float.proofs.Order.{lt_le_trans, lt_irrefl, at_most, at_least}

-- ---- of two numbers one is at most the other
or_else : (a b : Bool) → (T (not a) → T b) → T (a || b)
or_else true b f = tt
or_else false b f = f tt

same : (a b : ℕ) → a ≤ b → b ≤ a → T (eqb a b && true)
same a b p q = and_i (eqb a b) true (eq→eqb {a = a} {b = b} (omega arith)) tt

zeros : (a b : ℕ) → a + b ≤ 0 → T (eqb a b && eqb a 0)
zeros a b p = and_i (eqb a b) (eqb a 0) (eq→eqb {a = a} {b = b} (omega arith)) (eq→eqb {a = a} {b = 0} (omega arith))

total : (s t : Bool) (a b : ℕ) → T (not (below t b s a)) → T (below s a t b || level s a t b)
total false false a b h = or_else (ltb a b) _ (λ n. same a b (nltb→le b a h) (nltb→le a b n))
total true true a b h = or_else (ltb b a) _ (λ n. same a b (nltb→le b a n) (nltb→le a b h))
total false true a b h = zeros a b (omega (arith, nltb→le 0 (b + a) h))
total true false a b h = or_else (ltb 0 (a + b)) _ (λ n. zeros a b (nltb→le 0 (a + b) n))

pub not_lt_le : (x y : Float) → T (not (is_nan x)) → T (not (is_nan y)) → T (not (lt y x)) → T (le x y)
unfolding is_nan lt eq le
not_lt_le nan y p q h = absurd p
not_lt_le (inf s) nan p q h = absurd q
not_lt_le (inf true) (inf true) p q h = tt
not_lt_le (inf true) (inf false) p q h = tt
not_lt_le (inf false) (inf true) p q h = absurd h
not_lt_le (inf false) (inf false) p q h = tt
not_lt_le (inf true) (fin t n d) p q h = tt
not_lt_le (inf false) (fin t n d) p q h = absurd h
not_lt_le (fin s m e) nan p q h = absurd q
not_lt_le (fin s m e) (inf true) p q h = absurd h
not_lt_le (fin s m e) (inf false) p q h = tt
not_lt_le (fin s m e) (fin t n d) p q h = total s t (m * up e * down d) (n * up d * down e) h

-- what is compared is no NaN
le_first : (x y : Float) → T (le x y) → T (not (is_nan x))
unfolding is_nan le
le_first nan y p = p
le_first (inf s) y p = tt
le_first (fin s m e) y p = tt

le_second : (x y : Float) → T (le x y) → T (not (is_nan y))
unfolding is_nan le
le_second nan nan p = p
le_second (inf s) nan p = p
le_second (fin s m e) nan p = p
le_second x (inf t) p = tt
le_second x (fin t n d) p = tt

le_refl : (x : Float) → T (not (is_nan x)) → T (le x x)
le_refl x p = not_lt_le x x p p (not_T (lt x x) (lt_irrefl x))

pub le_trans : (x y z : Float) → T (le x y) → T (le y z) → T (le x z)
le_trans x y z p q =
    not_lt_le x z (le_first x y p) (le_second y z q) (not_T (lt z x) (λ r. lt_irrefl z (lt_le_trans z y z (lt_le_trans z x y r p) q)))

-- ---- std's clamp
pub clamp_is : (x low high : Float) → T (le low high) → cond (lt x low) low (cond (lt high x) high x) ≡ clamp_of x low high
unfolding clamp_of
clamp_is x low high p = go (lt x low)
  where
    ordered : lt high low ≡ false
    ordered = is_false (lt high low) (not_T (lt high low) (λ r. lt_irrefl high (lt_le_trans high low high r p)))

    go : (b : Bool) → cond b low (cond (lt high x) high x) ≡ (let y = cond b low x in cond (lt high y) high y)
    go true = rw ordered
    go false = refl

-- ---- finite numbers
pub finite_number : (x : Float) → T (finite x) → T (not (is_nan x))
unfolding is_nan
finite_number nan p = p
finite_number (inf s) p = tt
finite_number (fin s m e) p = tt

-- between two of them
pub finite_between : (l x h : Float) → T (finite l) → T (finite h) → T (le l x) → T (le x h) → T (finite x)
unfolding is_nan le
finite_between l nan h p q a b = le_second l nan a
finite_between nan (inf true) h p q a b = p
finite_between (inf s) (inf true) h p q a b = p
finite_between (fin s m e) (inf true) h p q a b = a
finite_between l (inf false) nan p q a b = q
finite_between l (inf false) (inf t) p q a b = q
finite_between l (inf false) (fin t n d) p q a b = b
finite_between l (fin s m e) h p q a b = tt

-- ---- the lesser, the greater, and between the two ends
number : (x : Float) → T (not (ne x x)) → T (not (is_nan x))
number x t = no_nan x (is_false (ne x x) t)

pub min_le_right : (a b : Float) → T (not (is_nan b)) → T (le (min_of a b) b)
unfolding min_of
min_le_right a b n =
    let C : Float → Type 0 = λ z. T (le z b) in
    by_test C (ne a a) (λ t. le_refl b n) (λ t. by_test C (lt b a) (λ u. le_refl b n) (not_lt_le a b (number a t) n))

pub le_max_right : (a b : Float) → T (not (is_nan b)) → T (le b (max_of a b))
unfolding max_of
le_max_right a b n =
    let C : Float → Type 0 = λ z. T (le b z) in
    by_test C (ne a a) (λ t. le_refl b n) (λ t. by_test C (lt a b) (λ u. le_refl b n) (not_lt_le b a n (number a t)))

pub clamp_le_high : (x low high : Float) → T (not (is_nan x)) → T (le low high) → T (le (clamp_of x low high) high)
unfolding clamp_of
clamp_le_high x low high n p =
    let y : Float = cond (lt x low) low x in
    let m : T (not (is_nan y)) = either (λ z. T (not (is_nan z))) (lt x low) (le_first low high p) n in
    let k = le_second low high p in
    by_test (λ z. T (le z high)) (lt high y) (λ t. le_refl high k) (not_lt_le y high m k)

-- ---- with zero
pub zero_le_max : (x : Float) → T (le k0 (max_of x k0))
unfolding is_nan of_bits
zero_le_max x = le_max_right x k0 tt

pub neg_le_zero : (x : Float) → T (le k0 x) → T (le (neg x) k0)
unfolding le lt eq neg of_bits
neg_le_zero nan p = p
neg_le_zero (inf true) p = p
neg_le_zero (inf false) p = tt
neg_le_zero (fin false m e) p = total true false (m * up e * 1) (0 * down e) tt
neg_le_zero (fin true m e) p =
    let z = eqb→eq (0 * down e) (m * up e * 1) (and_l (eqb (0 * down e) (m * up e * 1)) _ p) in
    total false false (m * up e * 1) (0 * down e) (le→nltb (0 * down e) (m * up e * 1) (omega arith))

not_negative : (n d : ℕ) → 0 < d → T (le k0 (round binary32 false n d))
unfolding round of_bits
not_negative n d D = round_mono binary32 0 1 n d (omega arith) D (omega arith)

-- a / c less b / c, each with a sign
difference : (s t : Bool) (a b c : ℕ) → 0 < c → T (below t b s a || level t b s a) → T (le k0 (sum binary32 s a (not t) b c))
unfolding sum
difference false false a b c C h = rw (le-ltb a b (at_most b a h)) (not_negative (a - b) c C)
difference false true a b c C h = not_negative (a + b) c C
difference true false a b c C h =
    let x = eqb→eq b a (and_l (eqb b a) (eqb b 0) h) in
    let y = eqb→eq b 0 (and_r (eqb b a) (eqb b 0) h) in
    rw (round_same binary32 true (a + b) c 0 1 C (omega arith) (omega arith)) (unfold round le of_bits in tt)
difference true true a b c C h =
    let l = at_least b a h in
    by_test (λ z. T (le k0 z)) (ltb a b) (λ t. not_negative (b - a) c C) (λ t. rw (le-ltb b a l) (not_negative (a - b) c C))

pub zero_le_sub : (x y : Float) → T (finite x) → T (le y x) → T (le k0 (x ⊖ y))
unfolding sub add neg le of_bits
zero_le_sub nan y p q = absurd p
zero_le_sub (inf s) y p q = absurd p
zero_le_sub (fin s m e) nan p q = absurd q
zero_le_sub (fin s m e) (inf true) p q = tt
zero_le_sub (fin s m e) (inf false) p q = absurd q
zero_le_sub (fin s m e) (fin t n d) p q = difference s t (m * up e * down d) (n * up d * down e) (down e * down d) (mul-pos (down_pos e) (down_pos d)) q
