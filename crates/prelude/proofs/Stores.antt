-- What stands at the front of an array after stores, runs of stores one after the other, and an array of two.
use mathlib.Core.Path.{◌≡◌, refl, ap, sym, ◌∙◌}
use mathlib.Core.List.{List, [], ◌∷◌, ◌++◌, map, map-append, append_assoc}
use Prim.Native.Nat.{ℕ, suc, ◌+◌, ◌-◌, ◌<◌, ◌≤◌}
use native.Mathlib.Nat.{zero-add, add-suc}
use native.Mathlib.Numerals.{add-one}
use native.Mathlib.Omega.{arith}
use lib.ListN.{length, take, drop, get_or, set, replicate}
use lib.Seq.{take-suc, take-suc-set, take-append-le, take-append-add, length-take-le, sets, sets-eq, length-sets, set_at, append_snoc, drop-cons}
use Rattle.prelude.specs.Lists.{replace_first, tabulate, stored}
use Rattle.prelude.proofs.ListLaws.{length_tabulate}
use Rattle.prelude.proofs.Loops.{Done, does}

-- one more behind the first n
pub put_more : {A : Type 0} (out : List A) (n : ℕ) (v : A) {xs xs' : List A} → n < length out → take n out ≡ xs → xs' ≡ xs ++ (v ∷ []) → take (n + 1) (set out n v) ≡ xs'
put_more out n v h p e = rw (add-one n, take-suc-set out n v h, p, e)

-- the same, with what is still to come
pub put_rest : {A : Type 0} (out : List A) (n : ℕ) (v : A) (rest : List A) → n < length out → take (n + 1) (set out n v) ++ rest ≡ take n out ++ (v ∷ rest)
put_rest out n v rest h = rw (add-one n, take-suc-set out n v h, append_snoc)

module _ {A B : Type 0} where
  -- a turn of a loop that stores f of the next element behind xs
  pub map_put : (f : A → B) (l : List A) (i : ℕ) (d : A) (xs out : List B) (k : ℕ) → i < length l → k < length out → take k out ≡ xs ++ map f (take i l)
      → take (k + 1) (set out k (f (get_or l i d))) ≡ xs ++ map f (take (i + 1) l)
  map_put f l i d xs out k h j p = put_more out k _ j p (rw (add-one i, take-suc l i d, map-append, append_assoc))

module _ {A : Type 0} where
  -- the elements vs stored at n + j, n + (j + 1) and so on
  abbrev pub store : List A → ℕ → ℕ → List A → List A
  store out n j [] = out
  store out n j (v ∷ vs) = store (set out (n + j) v) n (suc j) vs

  pub store_sets : (out : List A) (n j : ℕ) (vs : List A) → store out n j vs ≡ sets out (n + j) vs
  store_sets out n j [] = refl
  store_sets out n j (v ∷ vs) = store_sets (set out (n + j) v) n (suc j) vs ∙ ap (λ (k : ℕ). sets (set out (n + j) v) k vs) (add-suc n j)

  -- xs, and then the first m of the elements that were stored behind it
  pub take_store : (out xs vs : List A) (n j m k : ℕ) → take (n + j) out ≡ xs → n + j + length vs ≤ length out → m ≤ length vs → k ≡ n + j + m → take k (store out n j vs) ≡ xs ++ take m vs
  take_store out xs vs n j m k p h l e =
      let q : length xs ≡ n + j = ap length (sym p) ∙ length-take-le (n + j) out (omega arith) in
      let r : k ≡ length xs + m = omega arith in
      rw (store_sets out n j vs, sets-eq vs out (n + j) h, p, r, append_assoc, take-append-add xs, take-append-le m vs)

  -- an array of two
  pub two : (l : List A) (d : A) → length l ≡ 2 → get_or l 0 d ∷ get_or l 1 d ∷ [] ≡ l
  two [] d e = absurd (let z : ⊥ = omega arith in z)
  two (x ∷ []) d e = absurd (let z : ⊥ = omega arith in z)
  two (x ∷ y ∷ []) d e = refl
  two (x ∷ y ∷ z ∷ l) d e = absurd (let z : ⊥ = omega arith in z)

  -- a turn of a loop that replaces the first elements
  pub replaces : (new old : List A) (d : A) {out : List A} {n k i : ℕ} {v : A} → Done (λ j. replace_first j new old) n k out i → i < n → i < length new → i < length old → v ≡ get_or new i d
      → Done (λ j. replace_first j new old) n k (set out i v) (i + 1)
  replaces new old d {i = i} {v} r h a b e =
      does v r h (rw (r.is, e, add-one, take-suc new i d a, append_snoc, drop-cons old i d b) (set_at (take i new) (get_or old i d) (drop (suc i) old) (get_or new i d) i (length-take-le i new (omega arith))))

  -- a turn of a loop that stores f i at i, into an array of z
  pub fills : (f : ℕ → A) (z : A) (size i : ℕ) → i < size → set (tabulate f i ++ replicate (size - i) z) i (f i) ≡ tabulate f (i + 1) ++ replicate (size - (i + 1)) z
  unfolding tabulate
  fills f z size i h =
      let e : size - i ≡ suc (size - suc i) = omega arith in
      let rest = replicate (size - suc i) z in
      rw (add-one, e) (set_at (tabulate f i) z rest (f i) i (length_tabulate f i) ∙ sym (append_snoc (tabulate f i) (f i) rest))

-- ---- runs of stores: at i, i + 1 and so on
pub stored_run : (l : List ℕ) (i a : ℕ) (vs : List ℕ) → store (set l i a) i 1 vs ≡ stored l i (a ∷ vs)
unfolding stored
stored_run l i a vs = store_sets (set l i a) i 1 vs ∙ rw add-one

pub length_stored : (l : List ℕ) (i : ℕ) (vs : List ℕ) → length (stored l i vs) ≡ length l
unfolding stored
length_stored l i vs = length-sets l i vs

-- a run, and a run from where it ended
pub then_on : (l : List ℕ) (i j : ℕ) (us vs : List ℕ) {m : List ℕ} → m ≡ stored l i us → i + length us ≡ j → stored l i (us ++ vs) ≡ stored m j vs
unfolding stored
then_on l i j [] vs p e = let h : i ≡ j = omega arith in rw (p, h)
then_on l i j (u ∷ us) vs p e = then_on (set l i u) (suc i) j us vs p (omega arith)

pub then : (l : List ℕ) (i j : ℕ) (us vs : List ℕ) {m n : List ℕ} → m ≡ stored l i us → n ≡ stored m j vs → i + length us ≡ j → n ≡ stored l i (us ++ vs)
then l i j us vs p q e = q ∙ sym (then_on l i j us vs p e)

-- what a run from the start leaves
pub stored_all : (l vs : List ℕ) → length vs ≤ length l → stored l 0 vs ≡ vs ++ drop (length vs) l
unfolding stored
stored_all l vs h = sets-eq vs l 0 (omega arith) ∙ rw zero-add
