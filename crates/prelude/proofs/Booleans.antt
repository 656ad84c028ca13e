-- Laws of booleans: what a test chooses, and tests that are joined.
use mathlib.Core.Path.{◌≡◌}
use mathlib.Core.Bool.{Bool, true, false, not, ◌&&◌, ◌||◌, cond, and-eq-true_iff}
use lib.Dec.{T}
use lib.Ieee.Fits.{and_l, and_r}

-- ---- what a test chooses has what both values have
pub either : {A : Type 0} (P : A → Type 0) (b : Bool) {x y : A} → P x → P y → P (cond b x y)
either P true p q = p
either P false p q = q

-- the same, where each value has it because of the test's outcome
pub by_test : {A : Type 0} (P : A → Type 0) (b : Bool) {x y : A} → (T b → P x) → (T (not b) → P y) → P (cond b x y)
by_test P true f g = f tt
by_test P false f g = g tt

-- what a branch gives, where its test is the flag that a call returned
module _ {A : Type 0} where
  pub cond_yes : (b : Bool) (x y : A) {flag : Bool} {r : A} → flag ≡ b → flag ≡ true → r ≡ x → r ≡ cond b x y
  cond_yes b x y p t q = rw (← p, t) q

  pub cond_no : (b : Bool) (x y : A) {flag : Bool} {r : A} → flag ≡ b → flag ≡ false → r ≡ y → r ≡ cond b x y
  cond_no b x y p t q = rw (← p, t) q

-- ---- the parts of a test that passes
pub both : (a b : Bool) → (a && b) ≡ true → (a ≡ true) × (b ≡ true)
both a b = (and-eq-true_iff a b).0

pub and_three : (a b c : Bool) → T (a && (b && c)) → T a × T b × T c
and_three a b c t = (and_l a (b && c) t, and_l b c (and_r a (b && c) t), and_r b c (and_r a (b && c) t))

pub all_four : (a b c d : Bool) → T (a && (b && (c && d))) → T a × T b × T c × T d
all_four a b c d t = let k = and_three a b (c && d) t in (k.0, k.1, and_l c d k.2, and_r c d k.2)

-- of four tests that do not all pass, one fails
pub one_fails : (a b c d : Bool) {C : Type 0} → (T (not a) → C) → (T (not b) → C) → (T (not c) → C) → (T (not d) → C) → T (not (a && (b && (c && d)))) → C
one_fails true true true true i j k l t = absurd t
one_fails true true true false i j k l t = l tt
one_fails true true false d i j k l t = k tt
one_fails true false c d i j k l t = j tt
one_fails false b c d i j k l t = i tt

-- of three tests that do not all pass, the last fails where the others pass
pub last_fails : (a b c : Bool) → T (not (a && (b && c))) → T a → T b → T (not c)
last_fails true true c t i j = t
last_fails true false c t i j = absurd j
last_fails false b c t i j = absurd i

-- ---- of two tests one passes
pub or_case : (a b : Bool) → {C : Type 0} → (T a → C) → (T b → C) → T (a || b) → C
or_case true b f g t = f tt
or_case false b f g t = g t

pub or_l : (a b : Bool) → T a → T (a || b)
or_l true b t = tt
or_l false b t = absurd t

pub or_r : (a b : Bool) → T b → T (a || b)
or_r true b t = tt
or_r false b t = t
