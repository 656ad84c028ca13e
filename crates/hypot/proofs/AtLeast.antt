-- `hypot_of` is at least the size of its first side, where the second is no NaN: what is below the size is below it.
use mathlib.Core.Path.{refl, ◌∙◌}
use mathlib.Core.Logic.{inl, inr}
use mathlib.Core.Bool.{Bool, false}
use Prim.Native.Nat.{ℕ, ◌+◌, ◌*◌, ◌^◌, ◌≤◌, ◌<◌}
use native.Mathlib.Nat.{le_of_lt, mul-le-mul_right, min-eq_left, min-eq_right}
use native.Mathlib.Omega.{arith}
use lib.Dec.{T}
use lib.IntN.{ℤ}
use lib.Pow.{pow_pos}
use lib.Ieee.{Float, nan, inf, fin, binary32, fits, lt, le, eq, of_bits}
use lib.Ieee.Order.{le_of_values}
use Rattle.float.specs.MinMax.{abs_of}
use Rattle.float.proofs.Order.{lt_le_trans}
use Rattle.hypot.specs.Hypot.{hypot_of}
use Rattle.hypot.specs.Pattern.{unsigned_pattern_of, pattern_value}
use Rattle.hypot.specs.Nearest.{Nearest}
use Rattle.hypot.proofs.Order.{lt_or_ge, square_lt}
use Rattle.hypot.proofs.Floats.{finite_value, finite_pattern, pattern_value_is, inf_bits}
use Rattle.hypot.proofs.Theorem.{root_is_nearest}
use Rattle.hypot.proofs.Cases.{hypot_is_root}

-- the nearest to a root that is p's value or more
root_at_least : (n p r : ℕ) → pattern_value p * pattern_value p ≤ n → Nearest n r → pattern_value p ≤ pattern_value r
root_at_least n p r h a = elim (lt_or_ge (pattern_value r) (pattern_value p)) [ inl g ↦ absurd (below (pattern_value p) (pattern_value r) n h g (a.above p g)) | inr g ↦ g ]
  where
    below : (v w n : ℕ) → v * v ≤ n → w < v → 4 * n ≤ (v + w) * (v + w) → ⊥
    below v w n h g k = omega (arith, square_lt {a = v + w} {b = v + v} (omega arith))

finite_sides : (t : Float) (s u : Bool) (m n : ℕ) (e d : ℤ) → T (fits binary32 (fin s m e)) → T (fits binary32 (fin u n d)) → T (lt t (fin false m e)) → T (lt t (hypot_of (fin s m e) (fin u n d)))
finite_sides t s u m n e d A B l =
    let a = fin s m e in
    let b = fin u n d in
    let p = unsigned_pattern_of a in
    let q = unsigned_pattern_of b in
    let P : p < 0x7f80_0000 = finite_pattern a A tt in
    let Q : q < 0x7f80_0000 = finite_pattern b B tt in
    let near = root_is_nearest (pattern_value p * pattern_value p + pattern_value q * pattern_value q) in
    let r = near.r in
    let most : pattern_value p ≤ pattern_value r = root_at_least _ p r (omega arith) near.is in
    lt_le_trans t (fin false m e) (hypot_of a b) l (rw (hypot_is_root a b A B P Q ∙ near.root) (elim (lt_or_ge r 0x7f80_0000) [
      | inl g ↦
          rw (min-eq_left (le_of_lt g))
          (le_of_values (fin false m e) (of_bits binary32 r) (pattern_value p) (2 ^ 149) (pattern_value r) (2 ^ 149) (pow_pos 149) (pow_pos 149)
          (refl, (finite_value a A P).1) (pattern_value_is r g) (mul-le-mul_right (2 ^ 149) most))
      | inr g ↦ rw (min-eq_right g, inf_bits) (unfold le in tt)
    ]))

pub hypot_at_least : (t a b : Float) → T (fits binary32 a) → T (fits binary32 b) → T (lt t (abs_of a)) → T (eq b b) → T (lt t (hypot_of a b))
unfolding abs_of hypot_of lt eq
hypot_at_least nan nan b A B l k = absurd l
hypot_at_least (inf s) nan b A B l k = absurd l
hypot_at_least (fin s m e) nan b A B l k = absurd l
hypot_at_least t (inf s) b A B l k = l
hypot_at_least t (fin s m e) nan A B l k = absurd k
hypot_at_least t (fin s m e) (inf u) A B l k = lt_le_trans t (fin false m e) (inf false) l (unfold le in tt)
hypot_at_least t (fin s m e) (fin u n d) A B l k = finite_sides t s u m n e d A B l
