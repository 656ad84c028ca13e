-- An answer as document 01 gives it: a value, or the number of a refusal.
use Rattle.std.specs.Prelude.{Bool, cond, ℕ}

pub data Answer (A : Type 0) : Type 0 where
  accepted : A → Answer A
  refused : ℕ → Answer A

-- the answer, if a test is met, else a refusal
unfoldable pub must : {A : Type 0} → Bool → ℕ → Answer A → Answer A
must test number answer = cond test answer (refused number)

-- the number of a refusal, 0 for none
abbrev pub refusal_of : {A : Type 0} → Answer A → ℕ
refusal_of (accepted x) = 0
refusal_of (refused n) = n

-- what f makes of an accepted value
abbrev pub and_then : {A B : Type 0} → Answer A → (A → Answer B) → Answer B
and_then (accepted x) f = f x
and_then (refused n) f = refused n
