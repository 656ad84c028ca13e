-- Loops over lists, as definitions write them beside those of std (`list_any`, `list_all`): no element, find, filter with map, retain, reduce, enumerate, `a..b`, a change of the first elements in place, and stores from an index on.
use Rattle.std.specs.Prelude.{Bool, cond, ℕ, zero, suc, ◌-◌, eqb, length, take, drop}
use mathlib.Core.List.{List, [], ◌∷◌, ◌++◌, foldl}
use Rattle.std.proofs.lemmas.List.Edits.{sets}

module _ {A : Type 0} where
  abbrev pub is_empty : List A → Bool
  is_empty xs = eqb (length xs) 0

  -- g of each of the first n elements, and the rest as it is
  unfoldable pub map_first : (A → A) → ℕ → List A → List A
  map_first g zero xs = xs
  map_first g (suc n) [] = []
  map_first g (suc n) (x ∷ xs) = g x ∷ map_first g n xs

  -- the first n elements from one list, the others from another
  abbrev pub replace_first : ℕ → List A → List A → List A
  replace_first n new old = take n new ++ drop n old

module _ {A B : Type 0} where
  -- what hit makes of the first element that passes the test
  abbrev pub find : (A → Bool) → (A → B) → B → List A → B
  find p hit none [] = none
  find p hit none (x ∷ l) = cond (p x) (hit x) (find p hit none l)

  -- f of each element that passes the test
  abbrev pub filter_map : (A → Bool) → (A → B) → List A → List B
  filter_map p f [] = []
  filter_map p f (x ∷ l) = cond (p x) (f x ∷ filter_map p f l) (filter_map p f l)

module _ {A : Type 0} where
  -- Rust's `retain`
  abbrev pub retain : (A → Bool) → List A → List A
  retain p l = filter_map p (λ x. x) l

  -- those of the first n elements that pass the test, moved to the front of the others' places
  abbrev pub compact : (A → Bool) → ℕ → List A → List A
  compact p n l = let kept = retain p (take n l) in kept ++ drop (length kept) l

  -- Rust's `reduce`, with what it gives for no element
  abbrev pub reduce : (A → A → A) → A → List A → A
  reduce f none [] = none
  reduce f none (x ∷ xs) = foldl f x xs

  -- f of each number below n
  unfoldable pub tabulate : (ℕ → A) → ℕ → List A
  tabulate f zero = []
  tabulate f (suc n) = tabulate f n ++ (f n ∷ [])

  -- each element with its index, the first one's being i
  abbrev pub enumerate_from : ℕ → List A → List (ℕ × A)
  enumerate_from i [] = []
  enumerate_from i (x ∷ xs) = (i, x) ∷ enumerate_from (suc i) xs

-- k numbers from a on
abbrev pub count_from : ℕ → ℕ → List ℕ
count_from a zero = []
count_from a (suc k) = a ∷ count_from (suc a) k

-- Rust's `a..b`
abbrev pub range : ℕ → ℕ → List ℕ
range a b = count_from a (b - a)

-- `out` with the elements of `bytes` stored one after the other from an index on
unfoldable pub stored : List ℕ → ℕ → List ℕ → List ℕ
stored out at bytes = sets out at bytes
