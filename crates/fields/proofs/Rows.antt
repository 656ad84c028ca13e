-- A loop that puts the items of a list, one after the other.
use mathlib.Core.Path.{◌≡◌, refl, sym, ◌∙◌}
use mathlib.Core.List.{List, [], ◌∷◌, map, flat_map}
use Prim.Native.Nat.{ℕ, ◌+◌, ◌<◌, ◌≤◌}
use native.Mathlib.Numerals.{add-one}
use native.Mathlib.Omega.{arith}
use lib.ListN.{length, get_or, drop, drop_of_length-le, length-append}
use lib.Seq.{drop-cons}
use Rattle.prelude.specs.Lists.{stored}
use Rattle.prelude.proofs.Stores.{length_stored, then_on}

pub any_of : {A : Type 0} (l : List A) (i : ℕ) → i < length l → A
any_of [] i h = absurd (let z : ⊥ = omega arith in z)
any_of (x ∷ l) i h = x

-- Put from `at` on: after i items, the rest put behind gives the same as all put at first.
pub record Putting {A : Type 0} (f : A → List ℕ) (start : List ℕ) (at : ℕ) (l : List A) (out : List ℕ) (to i : ℕ) : Type 0 where
  pub same : length out ≡ length start
  pub most : i ≤ length l
  pub room : to + length (flat_map f (drop i l)) ≡ at + length (flat_map f l)
  pub rest : stored out to (flat_map f (drop i l)) ≡ stored start at (flat_map f l)

pub begun : {A : Type 0} (f : A → List ℕ) (start : List ℕ) (at : ℕ) (l : List A) → Putting f start at l start at 0
begun f start at l = record { same = refl; most = omega arith; room = refl; rest = refl }

pub put_all : {A : Type 0} {f : A → List ℕ} {start : List ℕ} {at : ℕ} {l : List A} {out : List ℕ} {to i : ℕ} → Putting f start at l out to i → length l ≤ i → out ≡ stored start at (flat_map f l)
unfolding flat_map stored
put_all {l = l} {i = i} p h = rw (drop_of_length-le l {i = i} h) at p.rest

cut : {A : Type 0} (l : List A) (i : ℕ) (d : A) → i < length l → drop i l ≡ get_or l i d ∷ drop (i + 1) l
cut l i d h = drop-cons l i d h ∙ rw add-one

module _ {A : Type 0} {f : A → List ℕ} {start : List ℕ} {at : ℕ} {l : List A} {out : List ℕ} {to i : ℕ} where
  -- one more fits
  pub one_fits : (w : ℕ) → ((a : A) → length (f a) ≡ w) → Putting f start at l out to i → i < length l → to + w ≤ at + length (flat_map f l)
  unfolding flat_map
  one_fits w each p h =
      let d = any_of l i h in
      let room = rw (cut l i d h) at p.room in
      omega (arith, room, each (get_or l i d), length-append (f (get_or l i d)) (flat_map f (drop (i + 1) l)))

  -- one turn
  pub puts : (w : ℕ) → ((a : A) → length (f a) ≡ w) → (d : A) {end : List ℕ} → Putting f start at l out to i → i < length l → end ≡ stored out to (f (get_or l i d))
      → Putting f start at l end (to + w) (i + 1)
  unfolding flat_map
  puts w each d p h e =
      let x = get_or l i d in
      let room = rw (cut l i d h) at p.room in
      let rest = rw (cut l i d h) at p.rest in
      record {
        same = rw (e, length_stored) p.same;
        most = omega arith;
        room = omega (arith, room, each x, length-append (f x) (flat_map f (drop (i + 1) l)));
        rest = sym (then_on out to (to + w) (f x) (flat_map f (drop (i + 1) l)) e (omega (arith, each x))) ∙ rest;
      }

-- the bytes of what f makes of each
pub flat_map_map : {A B C : Type 0} (f : A → B) (g : B → List C) (l : List A) → flat_map g (map f l) ≡ flat_map (λ a. g (f a)) l
unfolding flat_map
flat_map_map f g [] = refl
flat_map_map f g (x ∷ l) = rw (flat_map_map f g l)
