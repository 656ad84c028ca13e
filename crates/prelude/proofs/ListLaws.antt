-- Laws of lists that pass a test, of a change of the first elements in place, of no element, of ranges, of a function's values, of elements with their indices, and of two lists as one.
use mathlib.Core.Path.{◌≡◌, refl, ap, ap₂, sym, subst, ◌∙◌}
use mathlib.Core.Bool.{Bool, true, false, cond}
use mathlib.Core.List.{List, [], ◌∷◌, ◌++◌, map, zip_with}
use mathlib.Core.Logic.{⊎_elim}
use Prim.Native.Nat.{ℕ, zero, suc, ◌+◌, ◌<◌, ◌≤◌, zero-le, suc-le-suc}
use native.Mathlib.Nat.{le-suc, eq-or-lt_of_le, le_trans, zero-add, suc-add, add-zero, add-suc, sub-zero}
use native.Mathlib.Omega.{arith}
use lib.Dec.{T, eqb, eqb-suc-zero}
use lib.Ieee.Bits.{is_true}
use lib.ListN.{length, take, drop, get_or, length-append, get_or-append}
use lib.Seq.{take-nil, take_at, length_front, length-take-le, get_or_at}
use Rattle.prelude.proofs.Booleans.{either, by_test, both}
use Rattle.std.specs.List.{list_all}
use Rattle.prelude.specs.Lists.{is_empty, map_first, replace_first, find, retain, enumerate_from, tabulate, count_from, range}

module _ {A B : Type 0} (f : A → B) where
  -- one element more, if a test holds
  pub map_cond : (b : Bool) (x : A) (y : B) (l : List A) (m : List B) → f x ≡ y → map f l ≡ m → map f (cond b (x ∷ l) l) ≡ cond b (y ∷ m) m
  map_cond true x y l m p q = ap₂ (λ (z : B) (t : List B). z ∷ t) p q
  map_cond false x y l m p q = q

  pub map_retain : (p : B → Bool) (l : List A) → map f (retain (λ (x : A). p (f x)) l) ≡ retain p (map f l)
  map_retain p [] = refl
  map_retain p (x ∷ l) = map_cond (p (f x)) x (f x) (retain (λ (y : A). p (f y)) l) (retain p (map f l)) refl (map_retain p l)

module _ {A : Type 0} (p : A → Bool) where
  pub retain_fewer : (l : List A) → length (retain p l) ≤ length l
  retain_fewer [] = zero-le
  retain_fewer (x ∷ l) = let h = retain_fewer l in either (λ (k : List A). length k ≤ suc (length l)) (p x) (suc-le-suc h) (le_trans h (le-suc (length l)))

  -- the answer of a search is none, or made of an element that passes the test
  pub find_passes : {B : Type 0} (C : B → Type 0) (hit : A → B) (none : B) (l : List A) → C none → ((x : A) → p x ≡ true → C (hit x)) → C (find p hit none l)
  find_passes C hit none [] n h = n
  find_passes C hit none (x ∷ l) n h = by_test C (p x) (λ t. h x (is_true (p x) t)) (λ t. find_passes C hit none l n h)

  pub all_snoc : (l : List A) (x : A) → list_all p l ≡ true → p x ≡ true → list_all p (l ++ (x ∷ [])) ≡ true
  all_snoc [] x a b = rw b
  all_snoc (y ∷ l) x a b = let h = both (p y) (list_all p l) a in rw h.0 (all_snoc l x h.1 b)

module _ {A : Type 0} (g : A → A) where
  pub length_map_first : (n : ℕ) (xs : List A) → length (map_first g n xs) ≡ length xs
  unfolding map_first
  length_map_first zero xs = refl
  length_map_first (suc n) [] = refl
  length_map_first (suc n) (x ∷ xs) = ap suc (length_map_first n xs)

  pub take_map_first : (n : ℕ) (xs : List A) → take n (map_first g n xs) ≡ map g (take n xs)
  unfolding map_first
  take_map_first zero xs = refl
  take_map_first (suc n) [] = refl
  take_map_first (suc n) (x ∷ xs) = ap (λ t. g x ∷ t) (take_map_first n xs)

module _ {A : Type 0} where
  pub take_replace_first : (n : ℕ) (new old : List A) → n ≤ length new → take n (replace_first n new old) ≡ take n new
  take_replace_first n new old h = take_at (take n new) (drop n old) n (length-take-le n new h)

  pub length_replace_first : (n : ℕ) (new old : List A) → n ≤ length new → n ≤ length old → length (replace_first n new old) ≡ length old
  length_replace_first n new old h k = length_front old (take n new) n (length-take-le n new h ∙ sym (length-take-le n old k))

  pub drop_take : (n k : ℕ) (l : List A) → drop n (take (n + k) l) ≡ take k (drop n l)
  drop_take zero k l = rw zero-add
  drop_take (suc n) k [] = rw (suc-add, take-nil)
  drop_take (suc n) k (x ∷ l) = rw suc-add (drop_take n k l)

  -- ---- no element: a count's test is the list's
  pub none_counted : (n : ℕ) (l : List A) → n ≤ length l → is_empty (take n l) ≡ eqb n 0
  none_counted n l h = rw (length-take-le n l h)

  pub not_empty : (x : A) (l : List A) → T (is_empty (x ∷ l)) → ⊥
  not_empty x l t = subst T (eqb-suc-zero (length l)) t

-- ---- ranges
length_count : (a k : ℕ) → length (count_from a k) ≡ k
length_count a zero = refl
length_count a (suc k) = ap suc (length_count (suc a) k)

count_at : (a k i : ℕ) → i < k → get_or (count_from a k) i 0 ≡ a + i
count_at a zero i h = absurd (let z : ⊥ = omega arith in z)
count_at a (suc k) zero h = omega arith
count_at a (suc k) (suc i) h = let e = count_at (suc a) k i (omega arith) in omega arith

pub length_range : (n : ℕ) → length (range 0 n) ≡ n
length_range n = rw sub-zero (length_count 0 n)

pub range_at : (n i : ℕ) → i < n → get_or (range 0 n) i 0 ≡ i
range_at n i h = rw (sub-zero, count_at 0 n i h, zero-add)

pub length_tabulate : {A : Type 0} (f : ℕ → A) (n : ℕ) → length (tabulate f n) ≡ n
unfolding tabulate
length_tabulate f zero = refl
length_tabulate f (suc n) = length-append (tabulate f n) (f n ∷ []) ∙ rw (length_tabulate f n) (omega arith)

pub get_d_tabulate : {A : Type 0} (f : ℕ → A) (n i : ℕ) (d : A) → i < n → get_or (tabulate f n) i d ≡ f i
unfolding tabulate
get_d_tabulate f zero i d h = absurd (let z : ⊥ = omega arith in z)
get_d_tabulate f (suc n) i d h =
    let size = length_tabulate f n in
    ⊎_elim
    (λ e. rw e (get_or_at (tabulate f n) (f n) [] d n size))
    (λ less. get_or-append (tabulate f n) (f n ∷ []) d i (omega arith) ∙ get_d_tabulate f n i d less)
    (eq-or-lt_of_le (let z : i ≤ n = omega arith in z))

-- ---- elements with their indices
module _ {A : Type 0} where
  pub length_enumerate : (j : ℕ) (l : List A) → length (enumerate_from j l) ≡ length l
  length_enumerate j [] = refl
  length_enumerate j (x ∷ l) = ap suc (length_enumerate (suc j) l)

  pub enumerate_at : (j : ℕ) (l : List A) (i : ℕ) (d : A) → i < length l → get_or (enumerate_from j l) i (0, d) ≡ (j + i, get_or l i d)
  enumerate_at j [] i d h = absurd (let z : ⊥ = omega arith in z)
  enumerate_at j (x ∷ l) zero d h = rw add-zero
  enumerate_at j (x ∷ l) (suc i) d h = rw (add-suc, ← suc-add) (enumerate_at (suc j) l i d (omega arith))

module _ {A B C : Type 0} (f : A → B → C) where
  pub length_zip_with : (n : ℕ) (xs : List A) (ys : List B) → n ≤ length xs → n ≤ length ys → n ≤ length (zip_with f xs ys)
  unfolding zip_with
  length_zip_with zero xs ys h k = omega arith
  length_zip_with (suc n) [] ys h k = h
  length_zip_with (suc n) (x ∷ xs) [] h k = k
  length_zip_with (suc n) (x ∷ xs) (y ∷ ys) h k = let q = length_zip_with n xs ys (omega arith) (omega arith) in omega arith

  pub take_zip_with : (n : ℕ) (xs : List A) (ys : List B) → take n (zip_with f xs ys) ≡ zip_with f (take n xs) (take n ys)
  unfolding zip_with
  take_zip_with zero xs ys = refl
  take_zip_with (suc n) [] ys = refl
  take_zip_with (suc n) (x ∷ xs) [] = refl
  take_zip_with (suc n) (x ∷ xs) (y ∷ ys) = ap (λ t. f x y ∷ t) (take_zip_with n xs ys)

  pub get_d_zip_with : (xs : List A) (ys : List B) (i : ℕ) (d : A) (e : B) (z : C) → i < length (zip_with f xs ys) → get_or (zip_with f xs ys) i z ≡ f (get_or xs i d) (get_or ys i e)
  unfolding zip_with
  get_d_zip_with [] ys i d e z h = absurd (let z : ⊥ = omega arith in z)
  get_d_zip_with (x ∷ xs) [] i d e z h = absurd (let z : ⊥ = omega arith in z)
  get_d_zip_with (x ∷ xs) (y ∷ ys) zero d e z h = refl
  get_d_zip_with (x ∷ xs) (y ∷ ys) (suc i) d e z h = get_d_zip_with xs ys i d e z (omega arith)
