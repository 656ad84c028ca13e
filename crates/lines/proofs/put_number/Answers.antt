-- `put_number` puts a minus and the digits of the size below zero, and else the digits.
use mathlib.Core.Path.{◌≡◌, ap, ◌∙◌}
use mathlib.Core.Bool.{true, false}
use mathlib.Core.List.{◌∷◌}
use Prim.Native.Nat.{ℕ}
use native.Mathlib.Omega.{arith}
use borrow.Author.Tests.{ltb-true}
use lib.IntN.{ℤ, pos, negsuc, nat_abs}
use lib.ListN.{length, length-set}
use lib.Signed.{lt_z}
use mir.Syntax.{w32}
use mir.Val.{SFits, to_z, of_z}
use Rattle.std.proofs.lemmas.Int.{to_z-of_z}
use Rattle.lines.specs.Line.{digits_of, number_text}
use Rattle.lines.proofs.Puts.{one, put_after}
use Rattle.lines.proofs.put_number.Goals as goal

below_zero : (z : ℤ) → SFits w32 z → lt_z (to_z w32 (of_z w32 z)) (pos 0) ≡ true → number_text z ≡ 45 ∷ digits_of (nat_abs (to_z w32 (of_z w32 z)))
unfolding number_text
below_zero (pos n) f t = absurd (let z : ⊥ = omega (arith, ltb-true n 0 (rw (to_z-of_z w32 (pos n) f) at t)) in z)
below_zero (negsuc n) f t = rw (to_z-of_z w32 (negsuc n) f)

not_below_zero : (z : ℤ) → SFits w32 z → lt_z (to_z w32 (of_z w32 z)) (pos 0) ≡ false → number_text z ≡ digits_of (nat_abs (to_z w32 (of_z w32 z)))
unfolding number_text
not_below_zero (pos n) f t = rw (to_z-of_z w32 (pos n) f)
not_below_zero (negsuc n) f t = absurd (let z : ◌≡◌ {A = ℕ} 0 1 = cc (rw (to_z-of_z w32 (negsuc n) f) at t) in omega arith)

pub bounds-out-at : goal.bounds-out-at
bounds-out-at c = omega (arith, ap length (below_zero _ c.ranges.n c.if-n-lt0.true))

pub put_digits-requires : goal.put_digits-requires
put_digits-requires c = rw c.unsigned_abs.ensures.value (simp length-set (omega (arith, ap length (below_zero _ c.ranges.n c.if-n-lt0.true))))

pub returns-then-n-lt0 : goal.returns-then-n-lt0
returns-then-n-lt0 c =
    rw (below_zero _ c.ranges.n c.if-n-lt0.true) (put_after _ _ _ _ (one _ _ 45) (rw c.unsigned_abs.ensures.value at c.put_digits.ensures))

pub put_digits-requires-2 : goal.put_digits-requires-2
put_digits-requires-2 c = rw (c.unsigned_abs-2.ensures.value, ← not_below_zero _ c.ranges.n c.if-n-lt0.false) c.requires

pub returns : goal.returns
returns c = c.put_digits-2.ensures ∙ rw (c.unsigned_abs-2.ensures.value, not_below_zero _ c.ranges.n c.if-n-lt0.false)
