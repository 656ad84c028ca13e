-- Laws of answers: accepted is not refused; where a test was met, and where it was not; where a chain of answers is refused, or is the same as another.
use mathlib.Core.Path.{◌≡◌, refl, sym}
use mathlib.Core.Bool.{Bool, true, false}
use Prim.Native.Nat.{ℕ}
use native.Mathlib.Omega.{arith}
use Rattle.prelude.specs.Answer.{Answer, accepted, refused, must, and_then}

pub never : {A : Type 0} {x : A} {n : ℕ} → accepted x ≡ refused n → ⊥
never e = let z : ◌≡◌ {A = ℕ} 0 1 = cc in omega arith

pub must_met : {A : Type 0} (test : Bool) (n : ℕ) (a : Answer A) {x : A} → must test n a ≡ accepted x → (test ≡ true) × (a ≡ accepted x)
unfolding must
must_met true n a e = (refl, e)
must_met false n a e = absurd (never (sym e))

-- an answer behind a test: the refusal is the test's, or the answer's own
pub must_refused : {A : Type 0} (C : ℕ → Type 0) (test : Bool) (k : ℕ) (a : Answer A) {n : ℕ} → C k → (a ≡ refused n → C n) → must test k a ≡ refused n → C n
unfolding must
must_refused C true k a c own e = own e
must_refused C false k a {n} c own e = let same : k ≡ n = cc in rw (← same) c

pub refused_then : {A B : Type 0} (C : Type 0) (a : Answer A) {f : A → Answer B} {n : ℕ} → (a ≡ refused n → C) → ((x : A) → f x ≡ refused n → C) → and_then a f ≡ refused n → C
refused_then C (accepted x) g h e = h x e
refused_then C (refused m) g h e = g (cc)

pub then_same : {A B : Type 0} (a : Answer A) {f g : A → Answer B} → ((x : A) → a ≡ accepted x → f x ≡ g x) → and_then a f ≡ and_then a g
then_same (accepted x) h = h x refl
then_same (refused n) h = refl
