-- Loops over an array that keep or join the elements that pass a test.
use mathlib.Core.Path.{◌≡◌, refl, ap, subst, ◌∙◌}
use mathlib.Core.Bool.{Bool, true, false, cond}
use mathlib.Core.List.{List, [], ◌∷◌, ◌++◌, append_assoc, foldl, foldl-append}
use Prim.Native.Nat.{ℕ, suc, ◌+◌, ◌<◌}
use native.Mathlib.Numerals.{add-one}
use native.Mathlib.Omega.{arith}
use lib.Dec.{T}
use lib.ListN.{length, take, drop, get_or, set, length-append}
use lib.Seq.{drop-cons, set-append_seam, length-take-le}
use Rattle.std.specs.Prelude.{Option, Some, None, is_some, is_none, unwrap_or}
use Rattle.prelude.specs.Lists.{retain, compact, reduce}
use Rattle.prelude.proofs.ListLaws.{retain_fewer}
use Rattle.prelude.proofs.Loops.{one_more, no_more}

-- `compact`, with n elements kept so far
module _ {A : Type 0} (p : A → Bool) (l : List A) (i : ℕ) (d : A) (h : i < length l) {flag : Bool} (e : flag ≡ p (get_or l i d)) where
  few : length (retain p (take i l)) < length l
  few = let a = retain_fewer p (take i l) in let b : length (take i l) ≡ i = length-take-le i l (omega arith) in omega arith

  pub put_count : (n : ℕ) → flag ≡ true → n ≡ length (retain p (take i l)) → n + 1 ≡ length (retain p (take (i + 1) l))
  put_count n t q = rw (one_more p (λ x. x) l i d h e t, length-append, ← q)

  pub put_list : (n : ℕ) (out : List A) → flag ≡ true → n ≡ length (retain p (take i l)) → out ≡ compact p i l → set out n (get_or l i d) ≡ compact p (i + 1) l
  put_list n out t q o =
      let k = retain p (take i l) in
      ap (λ x. set x n (get_or l i d)) (o ∙ ap (λ x. k ++ x) (drop-cons l (length k) d few)) ∙ ap (λ x. set (k ++ get_or l (length k) d ∷ drop (suc (length k)) l) x (get_or l i d)) q
      ∙ set-append_seam k (get_or l (length k) d) (drop (suc (length k)) l) (get_or l i d)
      ∙ rw (one_more p (λ x. x) l i d h e t, append_assoc, length-append, add-one)

  pub skip_count : (n : ℕ) → flag ≡ false → n ≡ length (retain p (take i l)) → n ≡ length (retain p (take (i + 1) l))
  skip_count n t q = rw (no_more p (λ x. x) l i d h e t) q

  pub skip_list : (out : List A) → flag ≡ false → out ≡ compact p i l → out ≡ compact p (i + 1) l
  skip_list out t o = rw (no_more p (λ x. x) l i d h e t) o

-- `reduce`, as an option: none of no element
module _ {A : Type 0} (f : A → A → A) where
  abbrev pub reduced : List A → Option A
  reduced [] = None
  reduced (x ∷ l) = Some (foldl f x l)

  pub reduced_first : (l : List A) (x : A) → reduced l ≡ None → reduced (l ++ (x ∷ [])) ≡ Some x
  reduced_first [] x e = refl
  reduced_first (y ∷ l) x e = absurd (subst (λ o. T (is_some o)) e tt)

  pub reduced_next : (l : List A) (x b : A) → reduced l ≡ Some b → reduced (l ++ (x ∷ [])) ≡ Some (f b x)
  reduced_next [] x b e = absurd (subst (λ o. T (is_none o)) e tt)
  reduced_next (y ∷ l) x b e = ap Some (foldl-append f y l (x ∷ []) ∙ ap (λ o. f (unwrap_or o y) x) e)

  pub reduced_reduce : (z : A) (l : List A) → unwrap_or (reduced l) z ≡ reduce f z l
  reduced_reduce z [] = refl
  reduced_reduce z (y ∷ l) = refl
