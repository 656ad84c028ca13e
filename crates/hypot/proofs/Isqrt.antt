-- `isqrt n` is the largest r with r * r ≤ n, and `root_of` compares with even numbers as twice the root does.
use mathlib.Core.Path.{◌≡◌}
use mathlib.Core.Logic.{inl, inr}
use Prim.Native.Nat.{ℕ, zero, suc, ◌+◌, ◌*◌, ◌/◌, ◌^◌, ◌≤◌, ◌<◌, Ordering}
use native.Mathlib.Nat.{le_trans, pow-le-pow_left, le_antisymm, lt_of_lt_of_le, lt_of_le_of_lt, pow-succ'}
use native.Mathlib.Omega.{arith}
use mathlib.Core.Bool.{Bool, true, false, not, cond}
use lib.Dec.{T, leb, ltb, leb→le, nleb→lt, ltb→lt, nltb→le}
use lib.Ieee.{size}
use lib.Ieee.Digits.{size-lt}
use Rattle.prelude.proofs.Compare.{Cmp}
use borrow.Author.Tests.{lt-ltb, le-ltb}
use Rattle.prelude.proofs.Booleans.{either, by_test}
use Rattle.hypot.specs.Hypot.{grow, root_below, isqrt}
use Rattle.hypot.specs.Parts.{root_of}
use Rattle.hypot.proofs.Order.{lt_or_ge, square_le, square_lt}

abbrev pub IsRoot : ℕ → ℕ → Type 0
IsRoot n r = (r * r ≤ n) × (n < (r + 1) * (r + 1))

grown : (n r : ℕ) → r * r ≤ n → n < (r + 2) * (r + 2) → IsRoot n (grow n r)
grown n r h k = by_test (IsRoot n) (leb ((r + 1) * (r + 1)) n) (λ t. (leb→le ((r + 1) * (r + 1)) n t, omega arith)) (λ t. (h, nleb→lt ((r + 1) * (r + 1)) n t))

below : (d n : ℕ) → n < 4 ^ d → IsRoot n (root_below d n)
unfolding root_below
below zero n h = omega arith
below (suc d) n h =
    let e : 4 ^ suc d ≡ 4 * 4 ^ d = pow-succ' 4 d in
    let r = root_below d (n / 4) in
    let ih : IsRoot (n / 4) r = below d (n / 4) (omega arith) in
    grown n (2 * r) (omega (arith, ih.0)) (omega (arith, ih.1))

pub is_root : (n : ℕ) → IsRoot n (isqrt n)
unfolding isqrt
is_root n = below (size n) n (lt_of_lt_of_le (size-lt n) (pow-le-pow_left (omega arith) (size n)))

root_le : (n a b : ℕ) → a * a ≤ n → n < (b + 1) * (b + 1) → a ≤ b
root_le n a b h k = elim (lt_or_ge b a) [ inl g ↦ absurd (omega (arith, square_le {a = b + 1} {b = a} (omega arith))) | inr g ↦ g ]

pub isqrt_is : (n r : ℕ) → IsRoot n r → r ≡ isqrt n
isqrt_is n r h = le_antisymm (root_le n r (isqrt n) h.0 (is_root n).1) (root_le n (isqrt n) r (is_root n).0 h.1)

pub isqrt_from : (s n : ℕ) → s ≤ isqrt (s * s + n * n)
isqrt_from s n = root_le (s * s + n * n) s _ (omega arith) (is_root (s * s + n * n)).1

pub isqrt_to : (s n : ℕ) → isqrt (s * s + n * n) ≤ s + n
isqrt_to s n = root_le (s * s + n * n) _ (s + n) (is_root (s * s + n * n)).0 (omega arith)

-- ---- `root_of`
-- by its whole part x, of a root that is not whole and of one that is
pub root_between : (m x : ℕ) → x * x ≤ m → m < (x + 1) * (x + 1) → x * x < m → 2 * x + 1 ≡ root_of m
root_between m x h k l = rw (← (isqrt_is m x (h, k)), lt-ltb (x * x) m l)

pub root_whole : (m x : ℕ) → x * x ≤ m → m < (x + 1) * (x + 1) → m ≤ x * x → 2 * x ≡ root_of m
root_whole m x h k l = rw (← (isqrt_is m x (h, k)), le-ltb (x * x) m l)

pub root_within : (m : ℕ) → (2 * isqrt m ≤ root_of m) × (root_of m ≤ 2 * isqrt m + 1)
root_within m = either (λ r. (2 * isqrt m ≤ r) × (r ≤ 2 * isqrt m + 1)) (ltb (isqrt m * isqrt m) m) (omega arith) (omega arith)

pub root_ge : (m g : ℕ) → 2 * g ≤ root_of m → g * g ≤ m
root_ge m g h = le_trans (square_le {a = g} {b = isqrt m} (omega (arith, root_within m))) (is_root m).0

pub root_cmp : (m g : ℕ) (o : Ordering) → Cmp o (root_of m) (2 * g) → Cmp o m (g * g)
root_cmp m g o = go o (ltb (isqrt m * isqrt m) m) (ltb→lt (isqrt m * isqrt m) m) (nltb→le (isqrt m * isqrt m) m)
  where
    up : isqrt m < g → m < g * g
    up h = lt_of_lt_of_le (is_root m).1 (square_le {a = isqrt m + 1} {b = g} (omega arith))

    go : (o : Ordering) (b : Bool) → (T b → isqrt m * isqrt m < m) → (T (not b) → m ≤ isqrt m * isqrt m) → Cmp o (cond b (2 * isqrt m + 1) (2 * isqrt m)) (2 * g) → Cmp o m (g * g)
    go Ordering.lt true more same h = up (omega arith)
    go Ordering.lt false more same h = up (omega arith)
    go Ordering.eq true more same h = absurd (omega arith)
    go Ordering.eq false more same h = let e : isqrt m ≡ g = omega arith in rw (← e) (le_antisymm (same tt) (is_root m).0)
    go Ordering.gt true more same h = lt_of_le_of_lt (square_le {a = g} {b = isqrt m} (omega arith)) (more tt)
    go Ordering.gt false more same h = lt_of_lt_of_le (square_lt {a = g} {b = isqrt m} (omega arith)) (is_root m).0
