-- What holds of each element of a list, and of the elements of two lists in pairs.
use Rattle.std.specs.Prelude.{List, [], ◌∷◌}

abbrev pub Each : {A : Type 0} → (A → Type 0) → List A → Type 0
Each C [] = Unit {0}
Each C (x ∷ xs) = C x × Each C xs

-- the lists have one length
abbrev pub Pairwise : {A B : Type 0} → (A → B → Type 0) → List A → List B → Type 0
Pairwise C [] [] = Unit {0}
Pairwise C [] (y ∷ ys) = ⊥
Pairwise C (x ∷ xs) [] = ⊥
Pairwise C (x ∷ xs) (y ∷ ys) = C x y × Pairwise C xs ys

-- a proof for a list that is written out: `a & b & tt`
infixr 4 ◌&◌
abbrev pub ◌&◌ : {A B : Type 0} → A → B → A × B
a & b = (a, b)
