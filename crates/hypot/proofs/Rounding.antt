-- Which pattern is nearest, by its neighbours; and no other is.
use mathlib.Core.Path.{◌≡◌, refl, sym, ap, ◌∙◌}
use mathlib.Core.Logic.{◌⊎◌, inl, inr}
use Prim.Native.Nat.{ℕ, ◌+◌, ◌*◌, ◌%◌, ◌^◌, ◌≤◌, ◌<◌, Ordering}
use native.Mathlib.Nat.{le_trans, le_of_eq, le_of_lt, lt_of_lt_of_le, lt_of_le_of_lt, le_refl, lt_irrefl, le-add_right, zero-lt-suc, mul-le-mul_left, mul-lt-mul_of_pos_left, le_antisymm, eq-or-lt_of_le, add-zero, add_comm, add_assoc, add-le-add, add-lt-add_of_lt_of_le}
use native.Mathlib.Numerals.{add-one, add-one-le, lt-add-one}
use native.Mathlib.Omega.{arith}
use lib.Ieee.{nearest}
use Rattle.prelude.proofs.Compare.{Cmp}
use Rattle.hypot.specs.Pattern.{pattern_value}
use Rattle.hypot.specs.Nearest.{mid, Nearest}
use Rattle.hypot.proofs.Order.{lt_or_ge, square_le, square_lt}
use Rattle.hypot.proofs.Value.{value_lt, value_le, pattern_lt, value_at}

mid_le : (g : ℕ) {p q : ℕ} → p ≤ q → mid p g ≤ mid q g
mid_le g {p} {q} h = square_le {a = pattern_value p + pattern_value g} {b = pattern_value q + pattern_value g} (add-le-add (value_le h) (le_refl (pattern_value g)))

mid_lt : (g : ℕ) {p q : ℕ} → p < q → mid p g < mid q g
mid_lt g {p} {q} h = square_lt {a = pattern_value p + pattern_value g} {b = pattern_value q + pattern_value g} (add-lt-add_of_lt_of_le (value_lt h) (le_refl (pattern_value g)))

mid_swap : (p q : ℕ) → mid p q ≡ mid q p
mid_swap p q = rw (add_comm (pattern_value p) (pattern_value q))

mid_same : (p : ℕ) → mid p p ≡ 4 * (pattern_value p * pattern_value p)
mid_same p = omega arith

-- ---- by the neighbours of g
module _ (n g : ℕ) where
  made : ((p : ℕ) → p < g → mid p g ≤ 4 * n) → 4 * n ≤ mid (g + 1) g → ((p : ℕ) → (pattern_value p ≡ pattern_value g → ⊥) → mid p g ≡ 4 * n → g % 2 ≡ 0) → Nearest n g
  made lo hi tie = record { below = λ p h. lo p (pattern_lt h); above = λ p h. le_trans hi (mid_le g (add-one-le (pattern_lt h))); tie = tie }

  strict : ((p : ℕ) → p < g → mid p g < 4 * n) → 4 * n < mid (g + 1) g → Nearest n g
  strict lo hi = made (λ p h. le_of_lt (lo p h)) (le_of_lt hi) (λ p d e. absurd (none p d e (lt_or_ge p g)))
    where
      none : (p : ℕ) → (pattern_value p ≡ pattern_value g → ⊥) → mid p g ≡ 4 * n → (p < g) ⊎ (g ≤ p) → ⊥
      none p d e (inl h) = lt_irrefl (4 * n) (rw e at (lo p h))
      none p d e (inr h) = elim (eq-or-lt_of_le h) [
        | inl s ↦ d (ap pattern_value (sym s))
        | inr s ↦ lt_irrefl (4 * n) (rw e at (lt_of_lt_of_le hi (mid_le g (add-one-le s))))
      ]

  -- the root is not below g, or is below it
  rest_below : pattern_value g * pattern_value g ≤ n → (p : ℕ) → p < g → mid p g < 4 * n
  rest_below l p h = lt_of_lt_of_le (mid_lt g h) (le_trans (le_of_eq (mid_same g)) (mul-le-mul_left 4 l))

  rest_above : n < pattern_value g * pattern_value g → 4 * n < mid (g + 1) g
  rest_above u = lt_of_lt_of_le (mul-lt-mul_of_pos_left u (zero-lt-suc 3)) (le_trans (le_of_eq (sym (mid_same g))) (mid_le g (le-add_right g 1)))

  pub lower : pattern_value g * pattern_value g ≤ n → 4 * n < mid (g + 1) g → Nearest n g
  lower l m = strict (rest_below l) m

-- ---- b and b + 1
module _ (n b : ℕ) where
  mid_last : (p : ℕ) → p < b + 1 → mid p (b + 1) ≤ mid (b + 1) b
  mid_last p h = le_trans (mid_le (b + 1) (omega arith)) (le_of_eq (mid_swap b (b + 1)))

  pub upper : mid (b + 1) b < 4 * n → 4 * n < mid (b + 1 + 1) (b + 1) → Nearest n (b + 1)
  upper lo hi = strict n (b + 1) (λ p h. lt_of_le_of_lt (mid_last p h) lo) hi

  nearest_at : pattern_value b * pattern_value b ≤ n → n < pattern_value (b + 1) * pattern_value (b + 1) → (o : Ordering) → Cmp o (4 * n) (mid (b + 1) b) → Nearest n (nearest b o)
  nearest_at l u Ordering.lt h = lower n b l h
  nearest_at l u Ordering.gt h = rw (add-one b) at (upper h (rest_above n (b + 1) u))
  nearest_at l u Ordering.eq h = elim (lt_or_ge (b % 2) 1) [
    | inl z ↦
        let e : b % 2 ≡ 0 = omega arith in
        rw (e, add-zero b) (made n b (λ p g. le_of_lt (rest_below n b l p g)) (le_of_eq h) (λ p d k. e))
    | inr z ↦
        let e : b % 2 ≡ 1 = omega arith in
        rw e (made n (b + 1) (λ p g. le_trans (mid_last p g) (le_of_eq (sym h))) (le_of_lt (rest_above n (b + 1) u)) (λ p d k. omega arith))
  ]

-- ---- by the digits q of a number q * 2 ^ k
module _ (k q : ℕ) (h : q < 0x100_0000) (l : (k ≡ 0) ⊎ (0x80_0000 ≤ q)) where
  value_next : pattern_value (k * 0x80_0000 + q + 1) ≡ (q + 1) * 2 ^ k
  value_next = rw (add_assoc (k * 0x80_0000) q 1) (value_at k (q + 1) (omega arith) (elim l [ inl z ↦ inl z | inr z ↦ inr (omega arith) ]))

  pub mid_next : (2 * q + 1) * 2 ^ k ≡ pattern_value (k * 0x80_0000 + q + 1) + pattern_value (k * 0x80_0000 + q)
  mid_next = rw (value_next, value_at k q (le_of_lt h) l) (omega arith)

  shift : (o : Ordering) → nearest (k * 0x80_0000 + q) o ≡ k * 0x80_0000 + nearest q o
  shift Ordering.lt = refl
  shift Ordering.eq = omega arith
  shift Ordering.gt = omega arith

  pub nearest_digits : (n : ℕ) (o : Ordering) → q * 2 ^ k * (q * 2 ^ k) ≤ n → n < (q + 1) * 2 ^ k * ((q + 1) * 2 ^ k) → Cmp o (4 * n) ((2 * q + 1) * 2 ^ k * ((2 * q + 1) * 2 ^ k))
      → Nearest n (k * 0x80_0000 + nearest q o)
  nearest_digits n o lo hi c =
      rw (shift o) at (nearest_at n (k * 0x80_0000 + q) (rw (value_at k q (le_of_lt h) l) lo) (rw value_next hi) o (rw mid_next at c))

-- ---- no other pattern is nearest: two that are lie on either side of a tie, so both are even, and one between them would be nearer
not_less : (n r s : ℕ) → Nearest n r → Nearest n s → r < s → ⊥
not_less n r s a b h =
    let d : pattern_value r ≡ pattern_value s → ⊥ = λ (e : pattern_value r ≡ pattern_value s). lt_irrefl (pattern_value s) (rw e at (value_lt h)) in
    let e : mid r s ≡ 4 * n = le_antisymm (b.below r (value_lt h)) (le_trans (a.above s (value_lt h)) (le_of_eq (mid_swap s r))) in
    let even_r : r % 2 ≡ 0 = a.tie s (λ (x : pattern_value s ≡ pattern_value r). d (sym x)) (mid_swap s r ∙ e) in
    let even_s : s % 2 ≡ 0 = b.tie r d e in
    let skips : r + 1 < s = omega arith in
    let after : 4 * n ≤ mid (r + 1) r = a.above (r + 1) (value_lt (lt-add-one r)) in
    lt_irrefl (4 * n) (lt_of_le_of_lt after (lt_of_lt_of_le (mid_lt r skips) (le_of_eq (mid_swap s r ∙ e))))

pub unique : (n r s : ℕ) → Nearest n r → Nearest n s → r ≡ s
unique n r s a b = elim (lt_or_ge r s) [
  | inl h ↦ absurd (not_less n r s a b h)
  | inr h ↦ elim (eq-or-lt_of_le h) [ inl e ↦ sym e | inr g ↦ absurd (not_less n s r b a g) ]
]
