-- The order of floats: `<` goes on over `<=`, holds between no float and itself, and excludes `==`; what lies below a value stays below it under `min`.
use Rattle.std.proofs.Common.{◌≡◌, ℕ, ◌+◌, ◌*◌, ◌<◌, ◌≤◌, Bool, true, false, ◌&&◌, ◌||◌, T, eqb, ltb, ◌⊎◌, sym, inl, inr, le_of_eq, lt_of_lt_of_le, le_of_lt, mul-le-mul_right, eq-zero-or-pos, lt_of_mul-lt-mul_right, mul-lt-mul_of_pos_right, mul-pos, arith, eqb→eq, ltb→lt, lt→ltb}
use mathlib.Core.Bool.{beq}
use lib.Ieee.{Float, nan, inf, fin, up, down, below, level, lt, le, eq, ne}
use lib.Ieee.Compare.{differs_from_itself}
use lib.Ieee.Fits.{down_pos, and_l, and_r}
use lib.Ieee.Bits.{is_true}
use lib.Ieee.Positive.{first_pos}
use Rattle.prelude.proofs.Booleans.{by_test, or_case}
use Rattle.float.specs.MinMax.{min_of}

-- the factor of a product that is above something
above : (a x d g : ℕ) → 0 < g → a < x * d → 0 < x * g
above a x d g G h = mul-pos (first_pos x d (omega arith)) G

-- what `<=` of two numbers with one sign says of their sizes
level_is : (a b : ℕ) → T (eqb a b && true) → a ≡ b
level_is a b v = eqb→eq a b (and_l (eqb a b) true v)

pub at_most : (a b : ℕ) → T (ltb a b || (eqb a b && true)) → a ≤ b
at_most a b = or_case (ltb a b) (eqb a b && true) (λ t. le_of_lt (ltb→lt a b t)) (λ v. le_of_eq (level_is a b v))

pub at_least : (a b : ℕ) → T (ltb b a || (eqb a b && true)) → b ≤ a
at_least a b = or_case (ltb b a) (eqb a b && true) (λ t. le_of_lt (ltb→lt b a t)) (λ v. le_of_eq (sym (level_is a b v)))

-- ---- x / e, y / d and z / g, each with a sign
module _ (x y z e d g : ℕ) (E : 0 < e) (D : 0 < d) (G : 0 < g) where
  some : 0 < x * d + y * e → (0 < x * g) ⊎ (0 < y * g)
  some p = elim (eq-zero-or-pos (x * d)) [ inl k ↦ inr (above 0 y e g G (omega arith)) | inr k ↦ inl (above 0 x d g G k) ]

  below_most : (s t u : Bool) → T (below s (x * d) t (y * e)) → T (below t (y * g) u (z * d) || level t (y * g) u (z * d)) → T (below s (x * g) u (z * e))
  below_most false true u p q = absurd p
  below_most false false false p q =
      lt→ltb (x * g) (z * e) (lt_of_mul-lt-mul_right d (omega (arith, mul-lt-mul_of_pos_right (ltb→lt (x * d) (y * e) p) G, mul-le-mul_right e (at_most (y * g) (z * d) q))))
  below_most true false false p q =
      lt→ltb 0 (x * g + z * e) (elim (some (ltb→lt 0 (x * d + y * e) p)) [ inl k ↦ omega arith | inr k ↦ omega (arith, above 0 z d e E (lt_of_lt_of_le k (at_most (y * g) (z * d) q))) ])
  below_most true true false p q = lt→ltb 0 (x * g + z * e) (omega (arith, above _ x d g G (ltb→lt (y * e) (x * d) p)))
  below_most true true true p q =
      lt→ltb (z * e) (x * g) (lt_of_mul-lt-mul_right d (omega (arith, mul-lt-mul_of_pos_right (ltb→lt (y * e) (x * d) p) G, mul-le-mul_right e (at_least (y * g) (z * d) q))))
  -- here y and z are zero
  below_most false false true p q = absurd (let k : ⊥ = omega (arith, above _ y e g G (ltb→lt (x * d) (y * e) p), eqb→eq (y * g) 0 (and_r (eqb (y * g) (z * d)) (eqb (y * g) 0) q)) in k)
  below_most true false true p q =
      let n = eqb→eq (y * g) 0 (and_r (eqb (y * g) (z * d)) (eqb (y * g) 0) q) in
      let o = eqb→eq (y * g) (z * d) (and_l (eqb (y * g) (z * d)) (eqb (y * g) 0) q) in
      lt→ltb (z * e) (x * g) (elim (some (ltb→lt 0 (x * d + y * e) p)) [
        | inl k ↦ elim (eq-zero-or-pos (z * e)) [ inl a ↦ omega arith | inr a ↦ absurd (omega (arith, above 0 z e d D a)) ]
        | inr k ↦ absurd (omega arith)
      ])

pub lt_le_trans : (x y z : Float) → T (lt x y) → T (le y z) → T (lt x z)
unfolding lt le
lt_le_trans nan y z p q = absurd p
lt_le_trans (inf s) nan z p q = absurd p
lt_le_trans (inf true) (inf true) z p q = absurd p
lt_le_trans (inf true) (inf false) nan p q = q
lt_le_trans (inf true) (inf false) (inf true) p q = q
lt_le_trans (inf true) (inf false) (inf false) p q = tt
lt_le_trans (inf true) (inf false) (fin u k g) p q = tt
lt_le_trans (inf true) (fin t n d) nan p q = q
lt_le_trans (inf true) (fin t n d) (inf true) p q = q
lt_le_trans (inf true) (fin t n d) (inf false) p q = tt
lt_le_trans (inf true) (fin t n d) (fin u k g) p q = tt
lt_le_trans (inf false) (inf t) z p q = absurd p
lt_le_trans (inf false) (fin t n d) z p q = absurd p
lt_le_trans (fin s m e) nan z p q = absurd p
lt_le_trans (fin s m e) (inf true) z p q = absurd p
lt_le_trans (fin s m e) (inf false) nan p q = q
lt_le_trans (fin s m e) (inf false) (inf true) p q = q
lt_le_trans (fin s m e) (inf false) (inf false) p q = tt
lt_le_trans (fin s m e) (inf false) (fin u k g) p q = absurd q
lt_le_trans (fin s m e) (fin t n d) nan p q = q
lt_le_trans (fin s m e) (fin t n d) (inf true) p q = q
lt_le_trans (fin s m e) (fin t n d) (inf false) p q = tt
lt_le_trans (fin s m e) (fin t n d) (fin u k g) p q = below_most (m * up e) (n * up d) (k * up g) (down e) (down d) (down g) (down_pos e) (down_pos d) (down_pos g) s t u p q

pub lt_trans : (x y z : Float) → T (lt x y) → T (lt y z) → T (lt x z)
lt_trans x y z p q = lt_le_trans x y z p (unfold le in (rw (is_true (lt y z) q) tt))

pub lt_irrefl : (x : Float) → T (lt x x) → ⊥
unfolding lt
lt_irrefl nan p = p
lt_irrefl (inf true) p = p
lt_irrefl (inf false) p = p
lt_irrefl (fin false m e) p = omega (arith, ltb→lt (m * up e * down e) (m * up e * down e) p)
lt_irrefl (fin true m e) p = omega (arith, ltb→lt (m * up e * down e) (m * up e * down e) p)

-- what is below is not level
pub lt_not_eq : (x y : Float) → T (lt x y) → T (eq x y) → ⊥
unfolding lt eq
lt_not_eq nan y p q = p
lt_not_eq (inf s) nan p q = p
lt_not_eq (inf true) (inf true) p q = p
lt_not_eq (inf true) (inf false) p q = q
lt_not_eq (inf false) (inf t) p q = p
lt_not_eq (inf s) (fin t n d) p q = q
lt_not_eq (fin s m e) nan p q = p
lt_not_eq (fin s m e) (inf t) p q = q
lt_not_eq (fin s m e) (fin t n d) p q =
    let a = m * up e * down d in
    let b = n * up d * down e in
    go s t (eqb→eq a b (and_l (eqb a b) _ q)) p (and_r (eqb a b) _ q)
  where
    go : (s t : Bool) {a b : ℕ} → a ≡ b → T (below s a t b) → T (beq s t || eqb a 0) → ⊥
    go false false {a} {b} e p q = omega (arith, ltb→lt a b p)
    go false true e p q = p
    go true false {a} {b} e p q = omega (arith, ltb→lt 0 (a + b) p, eqb→eq a 0 q)
    go true true {a} {b} e p q = omega (arith, ltb→lt b a p)

pub min_below : (a c b : Float) → T (lt a b) → T (lt (min_of a c) b)
unfolding min_of lt
min_below a c b p =
    let C : Float → Type 0 = λ x. T (lt x b) in
    by_test C (ne a a) (λ t. absurd (rw (differs_from_itself a t) at p)) (λ t. by_test C (lt c a) (λ u. lt_trans c a b u p) (λ u. p))
