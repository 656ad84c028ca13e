-- A move inserted into arrays: each array opened at the move's place, the moves that the arrays then hold.
use mathlib.Core.Path.{◌≡◌, refl, ap, sym, ◌∙◌}
use mathlib.Core.Bool.{Bool, true, false, not, cond}
use mathlib.Core.List.{List, [], ◌∷◌, ◌++◌, map, append-nil}
use Prim.Native.Nat.{ℕ, zero, suc, ◌+◌, ◌-◌, ◌<◌, ◌≤◌}
use native.Mathlib.Omega.{arith}
use lib.Dec.{ltb, nltb→le}
use lib.Ieee.{Float}
use lib.ListN.{length, take, drop, get_or, set, length-drop, length-append}
use lib.Seq.{paste, drop_at, length-take-le, set_split, take-append-le, take-set-lt, take-take}
use Rattle.std.specs.Prelude.{Option, Some, None, unwrap_or}
use Rattle.std.specs.List.{find, flat_map, fold, insert, position_or_len, zip}
use Rattle.std.specs.Option.{option_map}
use Rattle.std.proofs.lemmas.List.{take_more}
use Rattle.std.proofs.lemmas.List.Concat.{flat_map-append}
use Rattle.std.proofs.lemmas.List.Sums.{fold-append, prefix_len-le-length}
use Rattle.std.proofs.lemmas.List.Edits.{take-paste}
use Rattle.std.proofs.lemmas.Slice.Zip.{length-zip}
use Rattle.prelude.specs.Lists.{find as first}
use Rattle.prelude.proofs.Booleans.{by_test}
use Rattle.prelude.proofs.ListLaws.{drop_take}
use Rattle.moves.specs.Moves.{length_of, shorter_of, insert_of, moves_in}

-- ---- an array opened at a place: what stood from there on among the first n is copied one place further, and v is put there
pub opened : {A : Type 0} (old : List A) (n at : ℕ) (v : A) → at ≤ n → n < length old → take (n + 1) (set (paste old (at + 1) (drop at old) (n - at)) at v) ≡ insert (take n old) at v
opened old n at v h k =
    let copied = paste old (at + 1) (drop at old) (n - at) in
    let e : n + 1 ≡ at + 1 + (n - at) = omega arith in
    let d : n ≡ at + (n - at) = omega arith in
    let front : length (take (at + 1) old) ≡ suc at = let z = length-take-le (at + 1) old (omega arith) in omega arith in
    let rest : drop at (take n old) ≡ take (n - at) (drop at old) = ap (λ m. drop at (take m old)) d ∙ drop_take at (n - at) old in
    let whole : take (n + 1) copied ≡ take (at + 1) old ++ take (n - at) (drop at old) =
    ap (λ m. take m copied) e ∙ take-paste old (at + 1) (drop at old) (n - at) (omega arith) (omega (arith, length-drop at old)) in
    rw (take-set-lt (n + 1) copied at v (omega arith), whole)
    (set_split (take (at + 1) old ++ take (n - at) (drop at old)) at v (let z = length-append (take (at + 1) old) (take (n - at) (drop at old)) in omega arith)
    ∙ rw (take-append-le at (take (at + 1) old) (take (n - at) (drop at old)) (omega arith), take-take at (at + 1) old (omega arith), drop_at (take (at + 1) old) (take (n - at) (drop at old)) (suc at) front, take-take at n old h, rest))

-- ---- an insertion at the place is the insertion in front of the first longer move
insert_slot : (l : List (Float × Float)) (m : Float × Float) → insert_of l m ≡ insert l (position_or_len (shorter_of (length_of m)) (map length_of l)) m
unfolding insert_of
insert_slot [] m = refl
insert_slot (y ∷ ys) m = go (shorter_of (length_of m) (length_of y)) (position_or_len (shorter_of (length_of m)) (map length_of ys)) (insert_slot ys m)
  where
    go : (b : Bool) (p : ℕ) → insert_of ys m ≡ insert ys p m → cond b (m ∷ y ∷ ys) (y ∷ insert_of ys m) ≡ insert (y ∷ ys) (cond (not b) (1 + p) 0) m
    go true p e = refl
    go false p e = let q : 1 + p ≡ suc p = omega arith in rw q (ap (λ (l : List (Float × Float)). y ∷ l) e)

pub length_insert_of : (l : List (Float × Float)) (m : Float × Float) → length (insert_of l m) ≡ length l + 1
unfolding insert_of
length_insert_of [] m = refl
length_insert_of (y ∷ ys) m = go (shorter_of (length_of m) (length_of y)) (length_insert_of ys m)
  where
    go : (b : Bool) → length (insert_of ys m) ≡ length ys + 1 → length (cond b (m ∷ y ∷ ys) (y ∷ insert_of ys m)) ≡ suc (length ys) + 1
    go true e = omega arith
    go false e = omega arith

map_insert : {A B : Type 0} (f : A → B) (l : List A) (p : ℕ) (v : A) → map f (insert l p v) ≡ insert (map f l) p (f v)
map_insert f l zero v = refl
map_insert f [] (suc p) v = refl
map_insert f (x ∷ l) (suc p) v = ap (λ t. f x ∷ t) (map_insert f l p v)

zip_insert : {A B : Type 0} (xs : List A) (ys : List B) (p : ℕ) (x : A) (y : B) → length xs ≡ length ys
    → zip (insert xs p x) (insert ys p y) ≡ insert (zip xs ys) p (x, y)
zip_insert xs ys zero x y e = refl
zip_insert [] [] (suc p) x y e = refl
zip_insert [] (b ∷ ys) (suc p) x y e = absurd (let z : ⊥ = omega arith in z)
zip_insert (a ∷ xs) [] (suc p) x y e = absurd (let z : ⊥ = omega arith in z)
zip_insert (a ∷ xs) (b ∷ ys) (suc p) x y e = ap (λ t. (a, b) ∷ t) (zip_insert xs ys p x y (omega arith))

-- what `position` finds, else the end
pub place : {A : Type 0} (p : A → Bool) (xs : List A) {n : ℕ} {r : Option ℕ} → length xs ≡ n → r ≡ cond (ltb (position_or_len p xs) (length xs)) (Some (position_or_len p xs)) None → (unwrap_or r n ≡ position_or_len p xs) × (unwrap_or r n ≤ n)
place p xs {n} {r} e q =
    let k : position_or_len p xs ≤ length xs = prefix_len-le-length (λ x. not (p x)) xs in
    rw q (by_test (λ (o : Option ℕ). (unwrap_or o n ≡ position_or_len p xs) × (unwrap_or o n ≤ n)) (ltb (position_or_len p xs) (length xs)) (λ t. (refl, omega arith)) (λ t. let z = nltb→le (position_or_len p xs) (length xs) t in (omega arith, omega arith)))

-- ---- folds over lists that are joined end to end: one more of them
pub joined_more : {X A B : Type 0} (g : B → A → B) (f : X → List A) (z : B) (xs : List X) (i : ℕ) (d : X) → i < length xs
    → fold g z (flat_map f (take (i + 1) xs)) ≡ fold g (fold g z (flat_map f (take i xs))) (f (get_or xs i d))
joined_more g f z xs i d h = rw (take_more xs i d h, flat_map-append f (take i xs) (get_or xs i d ∷ []), fold-append g z (flat_map f (take i xs)) _, append-nil)

-- ---- the first that passes, as an option
pub first_found : {A B : Type 0} (p : A → Bool) (hit : A → B) (none : B) (xs : List A) → first p hit none xs ≡ unwrap_or (option_map hit (find p xs)) none
first_found p hit none [] = refl
first_found {A} p hit none (x ∷ xs) = go (p x) (find p xs) (first_found p hit none xs)
  where
    go : (b : Bool) (o : Option A) → first p hit none xs ≡ unwrap_or (option_map hit o) none → cond b (hit x) (first p hit none xs) ≡ unwrap_or (option_map hit (cond b (Some x) o)) none
    go true o e = refl
    go false o e = e

-- how many moves two arrays hold
pub moves_count : (dxs dys : List Float) (n : ℕ) → n ≤ length dxs → n ≤ length dys → length (moves_in dxs dys n) ≡ n
moves_count dxs dys n h k = omega (arith, length-zip (take n dxs) (take n dys), length-take-le n dxs h, length-take-le n dys k)

-- the three arrays, each opened at the place of the new length
module _ (dxs dys lens dxs' dys' lens' : List Float) (n p : ℕ) (dx dy : Float) {ms : List (Float × Float)} (hx : n ≤ length dxs) (hy : n ≤ length dys)
    (view : moves_in dxs dys n ≡ ms) (e : p ≡ position_or_len (shorter_of (length_of (dx, dy))) (map length_of ms))
    (ex : take (n + 1) dxs' ≡ insert (take n dxs) p dx) (ey : take (n + 1) dys' ≡ insert (take n dys) p dy) where
  pub moves_inserted : moves_in dxs' dys' (n + 1) ≡ insert_of ms (dx, dy)
  moves_inserted =
      let lx : length (take n dxs) ≡ n = length-take-le n dxs hx in
      let ly : length (take n dys) ≡ n = length-take-le n dys hy in
      rw (ex, ey, zip_insert (take n dxs) (take n dys) p dx dy (omega arith), view, e) (sym (insert_slot ms (dx, dy)))

  pub lengths_inserted : take (n + 1) lens' ≡ insert (take n lens) p (length_of (dx, dy)) → take n lens ≡ map length_of (moves_in dxs dys n) → take (n + 1) lens' ≡ map length_of (moves_in dxs' dys' (n + 1))
  lengths_inserted el inv = el ∙ rw (inv, view, e) (sym (map_insert length_of ms _ (dx, dy))) ∙ ap (map length_of) (sym (insert_slot ms (dx, dy)) ∙ sym moves_inserted)
