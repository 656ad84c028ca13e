-- Loops over the first n elements of an array, as the definitions of Lists and folds.
use mathlib.Core.Path.{◌≡◌, refl, ap, sym, ◌∙◌}
use mathlib.Core.Bool.{Bool, true, false, cond}
use mathlib.Core.List.{List, [], ◌∷◌, ◌++◌, map, foldl, foldl-append, append-nil}
use Prim.Native.Nat.{ℕ, zero, suc, ◌+◌, ◌-◌, ◌<◌, ◌≤◌}
use native.Mathlib.Numerals.{add-one}
use native.Mathlib.Omega.{arith}
use lib.ListN.{length, take, drop, get_or, set, length-map, length-set, length-take, drop_of_length-le, get_or-map}
use lib.Seq.{take-suc, take_all, drop-cons, get_or-take, length-take-le}
use borrow.Author.Rules.{length_unmapped}
use Rattle.prelude.specs.Lists.{map_first, filter_map}

-- the length of an array of structs, as owning it tells, and a count within it
pub length_mapped : (X Y : Type 0) (f : X → Y) (l : List X) (n : ℕ) → length (map f l) ≡ n → length l ≡ n
length_mapped X Y f l n p = sym (length-map l f) ∙ p

pub in_array : (X Y : Type 0) (f : X → Y) (l : List X) (n k : ℕ) → length (map f l) ≡ k → n ≤ k → n ≤ length l
in_array X Y f l n k e h = let m = length_mapped X Y f l k e in omega arith

pub ruleset sized = (length_mapped, length_unmapped)

-- the next of the first n elements of an array, and their end
module _ {A : Type 0} where
  next_of : (d : A) (l : List A) (n i : ℕ) → n ≤ length l → i < n → drop i (take n l) ≡ get_or l i d ∷ drop (i + 1) (take n l)
  next_of d l n i h j =
      let w : length (take n l) ≡ n = length-take-le n l h in
      drop-cons (take n l) i d (omega arith) ∙ rw (add-one, get_or-take)

  pub none_left : (l : List A) (n i : ℕ) → n ≤ i → drop i (take n l) ≡ []
  none_left l n i h = drop_of_length-le (take n l) {i = i} (rw length-take (omega arith))

-- ---- a loop over the first n elements of an array: f of those from i on is k
pub record Rest {A B : Type 0} (f : List A → B) (l : List A) (n : ℕ) (k : B) (i : ℕ) : Type 0 where
  pub most : i ≤ n
  pub size : n ≤ length l
  pub left : f (drop i (take n l)) ≡ k

module _ {A B : Type 0} {f : List A → B} {l : List A} {n : ℕ} {k : B} {i : ℕ} where
  -- it stops at an element, it goes on past one, or none is left
  pub stops : (d : A) {b : B} → Rest f l n k i → i < n → f (get_or l i d ∷ drop (i + 1) (take n l)) ≡ b → b ≡ k
  stops d r h e = sym e ∙ (rw (next_of d l n i r.size h) at r.left)

  pub goes_on : (d : A) {g : List A → B} → Rest f l n k i → i < n → f (get_or l i d ∷ drop (i + 1) (take n l)) ≡ g (drop (i + 1) (take n l)) → Rest g l n k (i + 1)
  goes_on d r h e = record { most = omega arith; size = r.size; left = stops d r h e }

  pub runs_out : Rest f l n k i → n ≤ i → f [] ≡ k
  runs_out r h = rw (none_left l n i h) at r.left

-- its start, over all of a list
pub rest_all : {A B : Type 0} (f : List A → B) (l : List A) (n : ℕ) → length l ≡ n → Rest f l n (f l) 0
rest_all f l n e = record { most = omega arith; size = omega arith; left = ap f (take_all n l (omega arith)) }

-- ---- a loop that stores one element a turn: after i of n turns the array is f i, of length k
pub record Done {A : Type 0} (f : ℕ → List A) (n k : ℕ) (out : List A) (i : ℕ) : Type 0 where
  pub most : i ≤ n
  pub size : length out ≡ k
  pub is : out ≡ f i

module _ {A : Type 0} {f : ℕ → List A} {n k : ℕ} {out : List A} {i : ℕ} where
  pub does : (v : A) → Done f n k out i → i < n → set out i v ≡ f (i + 1) → Done f n k (set out i v) (i + 1)
  does v r h e = record { most = omega arith; size = rw length-set r.size; is = e }

  pub all_done : Done f n k out i → n ≤ i → out ≡ f n
  all_done r h = let e : n ≡ i = omega arith in rw e r.is

-- ---- a loop that folds
module _ {A B : Type 0} where
  pub fold_next : (f : B → A → B) (z : B) (l : List A) (i : ℕ) (d : A) {y : A} {acc r : B} → i < length l → acc ≡ foldl f z (take i l) → y ≡ get_or l i d → r ≡ f acc y
      → r ≡ foldl f z (take (i + 1) l)
  fold_next f z l i d h p e q = rw (add-one, take-suc l i d, foldl-append, ← p, ← e) q

  -- the candidates of a search: x, and what f makes of each element
  pub get_d_first : (f : A → B) (x : B) (l : List A) (k : ℕ) (d : A) → 0 < k → f (get_or l (k - 1) d) ≡ get_or (x ∷ map f l) k (f d)
  get_d_first f x l zero d h = absurd (let z : ⊥ = omega arith in z)
  get_d_first f x l (suc k) d h = let q : suc k - 1 ≡ k = omega arith in rw q (sym (get_or-map f l k d))

  pub take_map : (f : A → B) (n : ℕ) (l : List A) → take n (map f l) ≡ map f (take n l)
  take_map f zero l = refl
  take_map f (suc n) [] = refl
  take_map f (suc n) (x ∷ l) = ap (λ t. f x ∷ t) (take_map f n l)

  pub take_first : (f : A → B) (x : B) (n : ℕ) (l : List A) → take (n + 1) (x ∷ map f l) ≡ x ∷ map f (take n l)
  take_first f x n l = rw add-one (ap (λ t. x ∷ t) (take_map f n l))

-- ---- loops that take the elements that pass a test
module _ {A B : Type 0} (p : A → Bool) (f : A → B) where
  filter_map_append : (l m : List A) → filter_map p f (l ++ m) ≡ filter_map p f l ++ filter_map p f m
  filter_map_append [] m = refl
  filter_map_append (x ∷ l) m = go (p x) (filter_map_append l m)
    where
      go : (b : Bool) → filter_map p f (l ++ m) ≡ filter_map p f l ++ filter_map p f m
          → cond b (f x ∷ filter_map p f (l ++ m)) (filter_map p f (l ++ m)) ≡ cond b (f x ∷ filter_map p f l) (filter_map p f l) ++ filter_map p f m
      go true e = ap (λ t. f x ∷ t) e
      go false e = e

module _ {A B : Type 0} (p : A → Bool) (f : A → B) (l : List A) (i : ℕ) (d : A) (h : i < length l) {flag : Bool} (e : flag ≡ p (get_or l i d)) where
  -- a turn that finds an element, and one that does not
  pub one_more : flag ≡ true → filter_map p f (take (i + 1) l) ≡ filter_map p f (take i l) ++ (f (get_or l i d) ∷ [])
  one_more t = rw (add-one i, take-suc l i d h, filter_map_append, ← e, t)

  pub no_more : flag ≡ false → filter_map p f (take (i + 1) l) ≡ filter_map p f (take i l)
  no_more t = rw (add-one i, take-suc l i d h, filter_map_append, ← e, t, append-nil)

-- ---- the first elements of an array, changed in place as a slice of their own
pub map_first_parts : {A : Type 0} (g : A → A) (n : ℕ) (xs : List A) → map g (take n xs) ++ drop n xs ≡ map_first g n xs
unfolding map_first
map_first_parts g zero xs = refl
map_first_parts g (suc n) [] = refl
map_first_parts g (suc n) (x ∷ xs) = ap (λ t. g x ∷ t) (map_first_parts g n xs)
