-- Of two numbers one is below the other or not, and the order of squares.
use mathlib.Core.Path.{sym}
use mathlib.Core.Logic.{◌⊎◌, inl, inr}
use Prim.Native.Nat.{ℕ, suc, ◌*◌, ◌≤◌, ◌<◌, compare, Ordering}
use native.Mathlib.Nat.{le_of_eq, le_of_lt, mul-le-mul}
use native.Mathlib.Omega.{arith}
use Rattle.prelude.proofs.Compare.{Cmp, cmp}

pub lt_or_ge : (a b : ℕ) → (a < b) ⊎ (b ≤ a)
lt_or_ge a b = go (compare a b) (cmp a b)
  where
    go : (o : Ordering) → Cmp o a b → (a < b) ⊎ (b ≤ a)
    go Ordering.lt h = inl h
    go Ordering.eq h = inr (le_of_eq (sym h))
    go Ordering.gt h = inr (le_of_lt h)

pub square_le : {a b : ℕ} → a ≤ b → a * a ≤ b * b
square_le h = mul-le-mul h h

pub square_lt : {a b : ℕ} → a < b → a * a < b * b
square_lt {a} {b} h = omega (arith, square_le {a = suc a} {b = b} h)
