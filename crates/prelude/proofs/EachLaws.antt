-- What holds of each element: of one, of a part of a list, of lists joined, of those that pass a test, of the first ones changed, and along a fold.
use mathlib.Core.Path.{◌≡◌}
use mathlib.Core.Bool.{Bool, true, false, not, cond}
use mathlib.Core.List.{List, [], ◌∷◌, ◌++◌, map, foldl}
use Prim.Native.Nat.{ℕ, zero, suc, ◌<◌}
use native.Mathlib.Omega.{arith}
use lib.Dec.{T}
use lib.ListN.{length, take, drop, get_or, set}
use Rattle.prelude.proofs.Booleans.{either, both}
use Rattle.std.specs.List.{list_all}
use Rattle.prelude.specs.Lists.{map_first, replace_first, filter_map, retain, compact}
use Rattle.prelude.specs.Each.{Each, Pairwise}

module _ {A : Type 0} (C : A → Type 0) where
  pub each_take : (n : ℕ) (xs : List A) → Each C xs → Each C (take n xs)
  each_take zero xs e = tt
  each_take (suc n) [] e = tt
  each_take (suc n) (x ∷ xs) e = (e.0, each_take n xs e.1)

  pub each_drop : (n : ℕ) (xs : List A) → Each C xs → Each C (drop n xs)
  each_drop zero xs e = e
  each_drop (suc n) [] e = tt
  each_drop (suc n) (x ∷ xs) e = each_drop n xs e.1

  pub each_at : (i : ℕ) (xs : List A) (d : A) → i < length xs → Each C xs → C (get_or xs i d)
  each_at i [] d h e = absurd (let z : ⊥ = omega arith in z)
  each_at zero (x ∷ xs) d h e = e.0
  each_at (suc i) (x ∷ xs) d h e = each_at i xs d (omega arith) e.1

  pub each_append : (xs ys : List A) → Each C xs → Each C ys → Each C (xs ++ ys)
  each_append [] ys e f = f
  each_append (x ∷ xs) ys e f = (e.0, each_append xs ys e.1 f)

  pub each_set : (i : ℕ) (xs : List A) (x : A) → Each C xs → C x → Each C (set xs i x)
  each_set i [] x e c = tt
  each_set zero (y ∷ ys) x e c = (c, e.1)
  each_set (suc i) (y ∷ ys) x e c = (e.0, each_set i ys x e.1 c)

  pub each_replaced : (n : ℕ) (new old : List A) → Each C new → Each C old → Each C (replace_first n new old)
  each_replaced n new old e f = each_append (take n new) (drop n old) (each_take n new e) (each_drop n old f)

module _ {A B : Type 0} (C : B → Type 0) (f : A → B) where
  pub each_map : (xs : List A) → Each (λ x. C (f x)) xs → Each C (map f xs)
  each_map [] e = tt
  each_map (x ∷ xs) e = (e.0, each_map xs e.1)

  pub each_unmap : (xs : List A) → Each C (map f xs) → Each (λ x. C (f x)) xs
  each_unmap [] e = tt
  each_unmap (x ∷ xs) e = (e.0, each_unmap xs e.1)

module _ {A : Type 0} (C D : A → Type 0) where
  pub each_imp : ((x : A) → C x → D x) → (xs : List A) → Each C xs → Each D xs
  each_imp g [] e = tt
  each_imp g (x ∷ xs) e = (g x e.0, each_imp g xs e.1)

  pub each_both : (xs : List A) → Each C xs → Each D xs → Each (λ x. C x × D x) xs
  each_both [] e f = tt
  each_both (x ∷ xs) e f = ((e.0, f.0), each_both xs e.1 f.1)

-- ---- two lists in pairs
module _ {A B : Type 0} (C : A → B → Type 0) where
  pub pairwise_append : (xs : List A) (ys : List B) (zs : List A) (ws : List B) → Pairwise C xs ys → Pairwise C zs ws → Pairwise C (xs ++ zs) (ys ++ ws)
  pairwise_append [] [] zs ws e f = f
  pairwise_append [] (y ∷ ys) zs ws e f = absurd e
  pairwise_append (x ∷ xs) [] zs ws e f = absurd e
  pairwise_append (x ∷ xs) (y ∷ ys) zs ws e f = (e.0, pairwise_append xs ys zs ws e.1 f)

  pub pairwise_imp : (D : A → B → Type 0) → ((x : A) (y : B) → C x y → D x y) → (xs : List A) (ys : List B) → Pairwise C xs ys → Pairwise D xs ys
  pairwise_imp D g [] [] e = tt
  pairwise_imp D g [] (y ∷ ys) e = absurd e
  pairwise_imp D g (x ∷ xs) [] e = absurd e
  pairwise_imp D g (x ∷ xs) (y ∷ ys) e = (g x y e.0, pairwise_imp D g xs ys e.1)

-- a test that each passes
pub all_each : {A : Type 0} (p : A → Bool) (l : List A) → list_all p l ≡ true → Each (λ x. p x ≡ true) l
all_each p [] e = tt
all_each p (x ∷ l) e = let b = both (p x) (list_all p l) e in (b.0, all_each p l b.1)

-- ---- those that pass a test
module _ {A B : Type 0} (p : A → Bool) (f : A → B) (C : A → Type 0) where
  pub each_filter : (D : B → Type 0) → ((x : A) → C x → D (f x)) → (xs : List A) → Each C xs → Each D (filter_map p f xs)
  each_filter D g [] e = tt
  each_filter D g (x ∷ xs) e = let k = each_filter D g xs e.1 in either (Each D) (p x) (g x e.0, k) k

  pub each_unfilter : (D : B → Type 0) (Q : A → Type 0) → ((x : A) → C x → D (f x) → Q x) → ((x : A) → C x → T (not (p x)) → Q x) → (xs : List A) → Each C xs → Each D (filter_map p f xs) → Each Q xs
  each_unfilter D Q g n [] e k = tt
  each_unfilter D Q g n (x ∷ xs) e k = go (p x) (n x e.0) k (each_unfilter D Q g n xs e.1)
    where
      go : (b : Bool) → (T (not b) → Q x) → Each D (cond b (f x ∷ filter_map p f xs) (filter_map p f xs)) → (Each D (filter_map p f xs) → Each Q xs) → Q x × Each Q xs
      go true u k on = (g x e.0 k.0, on k.1)
      go false u k on = (u tt, on k)

pub each_compact : {A : Type 0} (C : A → Type 0) (p : A → Bool) (n : ℕ) (xs : List A) → Each C xs → Each C (compact p n xs)
each_compact C p n xs e =
    let kept = retain p (take n xs) in
    each_append C kept (drop (length kept) xs) (each_filter p (λ x. x) C C (λ x c. c) (take n xs) (each_take C n xs e)) (each_drop C (length kept) xs e)

-- the first elements are changed, so that D holds; of the others C holds still
module _ {A : Type 0} (C D : A → Type 0) (g : A → A) (made : (x : A) → C x → D (g x)) (kept : (x : A) → C x → D x) where
  pub each_map_first : (n : ℕ) (xs : List A) → Each C xs → Each D (map_first g n xs)
  unfolding map_first
  each_map_first zero xs e = each_imp C D kept xs e
  each_map_first (suc n) [] e = tt
  each_map_first (suc n) (x ∷ xs) e = (made x e.0, each_map_first n xs e.1)

-- ---- folds that keep what holds of a value
module _ {A B : Type 0} (C : B → Type 0) (f : B → A → B) (step : (b : B) (x : A) → C b → C (f b x)) where
  pub fold_keeps : (xs : List A) (b : B) → C b → C (foldl f b xs)
  fold_keeps [] b c = c
  fold_keeps (x ∷ xs) b c = fold_keeps xs (f b x) (step b x c)

-- ---- folds over elements of which D holds, with values of which C holds
module _ {A B : Type 0} (C : B → Type 0) (D : A → Type 0) (f : B → A → B) (step : (b : B) (x : A) → C b → D x → C (f b x)) where
  pub fold_ind : (xs : List A) (b : B) → C b → Each D xs → C (foldl f b xs)
  fold_ind [] b c e = c
  fold_ind (x ∷ xs) b c e = fold_ind xs (f b x) (step b x c e.0) e.1

-- what each element brings about, and later ones keep, holds of each at the end
module _ {A B : Type 0} (C : B → Type 0) (D : A → Type 0) (f : B → A → B) (step : (b : B) (x : A) → C b → D x → C (f b x))
    (Q : B → A → Type 0) (done : (b : B) (x : A) → C b → D x → Q (f b x) x) (kept : (b : B) (x y : A) → C b → D y → Q b x → Q (f b y) x) where
  pub fold_each : (xs : List A) (b : B) → C b → Each D xs → Each (Q (foldl f b xs)) xs
  fold_each [] b c e = tt
  fold_each (x ∷ xs) b c e = (
    (fold_ind (λ z. C z × Q z x) D f (λ z y k g. (step z y k.0 g, kept z x y k.0 g k.1)) xs (f b x) (step b x c e.0, done b x c e.0) e.1).1,
    fold_each xs (f b x) (step b x c e.0) e.1,
  )
