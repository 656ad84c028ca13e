-- Whole numbers by their parts above and below zero, of which one is 0: laws that turn facts about ℤ into inequalities for `omega`.
use mathlib.Core.Path.{◌≡◌, refl, sym, ap, ◌∙◌, subst}
use Prim.Native.Nat.{ℕ, zero, suc, ◌+◌, ◌*◌, ◌≤◌}
use native.Mathlib.Nat.{le_of_lt, lt_of_not-le, zero-mul}
use native.Mathlib.Omega.{arith}
use mathlib.Core.Bool.{true, false, not}
use lib.Dec.{T, T_not, ltb, leb→le, le→leb, ltb→lt, nltb→le}
use lib.IntN.{ℤ, pos, negsuc, neg_ℤ, sub_ℕ, ◌+ℤ◌, ◌-ℤ◌, ◌*ℤ◌}
use lib.Signed.{le_z, lt_z, lt_z_no}
use lib.Ieee.{Float, nan, inf, fin}
use Rattle.prelude.proofs.Booleans.{by_test}
use Rattle.numerics.specs.Value.{magnitude, Whole, pos_part, neg_part, value, above, below, P, N}

pub le_parts : (a b : ℤ) → T (le_z a b) → above a + below b ≤ above b + below a
le_parts (pos a) (pos b) t = let k = leb→le a b t in omega arith
le_parts (pos a) (negsuc b) t = absurd t
le_parts (negsuc a) (pos b) t = omega arith
le_parts (negsuc a) (negsuc b) t = let k = leb→le b a t in omega arith

pub parts_le : (a b : ℤ) → above a + below b ≤ above b + below a → T (le_z a b)
parts_le (pos a) (pos b) h = le→leb a b (omega arith)
parts_le (pos a) (negsuc b) h = absurd (let z : ⊥ = omega arith in z)
parts_le (negsuc a) (pos b) h = tt
parts_le (negsuc a) (negsuc b) h = le→leb b a (omega arith)

pub nle_parts : (a b : ℤ) → T (not (le_z a b)) → above b + below a ≤ above a + below b
nle_parts a b t = le_of_lt (lt_of_not-le (λ h. T_not (le_z a b) t (parts_le a b h)))

pub nlt_parts : (a b : ℤ) → T (not (lt_z a b)) → above b + below a ≤ above a + below b
nlt_parts a b t = le_parts b a (lt_z_no {a = a} {b = b} t).le

natural_parts : (a b : ℕ) → above (sub_ℕ a b) + b ≡ below (sub_ℕ a b) + a
natural_parts a b = by_test (λ z. above z + b ≡ below z + a) (ltb a b) (λ t. omega (arith, ltb→lt a b t)) (λ t. omega (arith, nltb→le a b t))

pub add_parts : (a b : ℤ) → above (a +ℤ b) + below a + below b ≡ below (a +ℤ b) + above a + above b
add_parts (pos a) (pos b) = omega arith
add_parts (pos a) (negsuc b) = let k = natural_parts a (suc b) in omega arith
add_parts (negsuc a) (pos b) = let k = natural_parts b (suc a) in omega arith
add_parts (negsuc a) (negsuc b) = omega arith

pub neg_parts : (a : ℤ) → (above (neg_ℤ a) ≡ below a) × (below (neg_ℤ a) ≡ above a)
neg_parts (pos zero) = (refl, refl)
neg_parts (pos (suc n)) = (refl, refl)
neg_parts (negsuc n) = (refl, refl)

pub sub_parts : (a b : ℤ) → above (a -ℤ b) + below a + above b ≡ below (a -ℤ b) + above a + below b
sub_parts a b = omega (arith, add_parts a (neg_ℤ b), (neg_parts b).0, (neg_parts b).1)

pub mul_parts : (a : ℤ) (d : ℕ) → (above (a *ℤ pos d) ≡ above a * d) × (below (a *ℤ pos d) ≡ below a * d)
mul_parts (pos a) d = (refl, sym (zero-mul d))
mul_parts (negsuc a) d = let k = neg_parts (pos (suc a * d)) in (k.0 ∙ sym (zero-mul d), k.1)

pub eq_parts : (a b : ℤ) → a ≡ b → above a + below b ≡ above b + below a
eq_parts a b e = subst (λ (z : ℤ). above a + below z ≡ above z + below a) e refl

pub value_parts : (x : Float) → Whole x → (above (value x) ≡ pos_part x) × (below (value x) ≡ neg_part x)
unfolding pos_part neg_part
value_parts nan p = absurd p
value_parts (inf s) p = absurd p
value_parts (fin false m e) p = (refl, refl)
value_parts (fin true m e) p = neg_parts (pos (magnitude (fin true m e)))

-- a float times d
pub scaled_parts : (d : ℕ) (x : Float) → Whole x → (above (value x *ℤ pos d) ≡ P d x) × (below (value x *ℤ pos d) ≡ N d x)
unfolding P N
scaled_parts d x p = let m = mul_parts (value x) d in let v = value_parts x p in (m.0 ∙ ap (λ (z : ℕ). z * d) v.0, m.1 ∙ ap (λ (z : ℕ). z * d) v.1)
