-- What an array's `map` gives, by a closure that computes a function at each call.
use mathlib.Core.Path.{◌≡◌, refl, ap₂, ◌∙◌}
use mathlib.Core.List.{List, ◌∷◌, map}
use Prim.Native.Nat.{ℕ, zero, suc, ◌+◌, ◌<◌}
use native.Mathlib.Numerals.{add-one}
use native.Mathlib.Omega.{arith}
use lib.ListN.{length, drop, drop_of_length-le}
use lib.Seq.{drop-cons}
use denote.Param.Members.{Mut}
use Rattle.std.specs.Array.{IsMapOf, IsElementAt, MapsFrom}
use Rattle.std.specs.Fn.{AlwaysReturns, ReturnsEach}

element_first : {A : Type 0} (l : List A) (i : ℕ) (x : A) → IsElementAt l i x → i < length l → drop i l ≡ x ∷ drop (i + 1) l
element_first l i x e h = drop-cons l i x h ∙ rw (e.0, add-one) refl

module _ {F A B : Type 0} (g : Mut F (A × Unit {0}) B) (h : A → B) (xs : List A) (ys : List B) where
  from : (n i : ℕ) (f : F) → i + n ≡ length xs → i + n ≡ length ys → MapsFrom g f xs ys i n → ReturnsEach g (λ a r. r ≡ h a.0) f (map (λ x. (x, tt)) (drop i xs))
      → drop i ys ≡ map h (drop i xs)
  from zero i f p q m r = rw (drop_of_length-le xs {i = i} (omega arith), drop_of_length-le ys {i = i} (omega arith)) refl
  from (suc n) i f p q m r =
      let dx = element_first xs i m.1 m.3 (omega arith) in
      let dy = element_first ys i m.2 m.4 (omega arith) in
      let s = (rw dx at r) m.2 m.0 m.5 in
      rw (dx, dy) (ap₂ (λ (y : B) (t : List B). y ∷ t) s.0 (from n (i + 1) m.0 (omega arith) (omega arith) m.6 s.1))

  pub mapped : {f : F} {n : ℕ} → IsMapOf g f xs ys n → length xs ≡ n → AlwaysReturns g (λ a r. r ≡ h a.0) f → ys ≡ map h xs
  mapped {f} {n} m e r = let w = m.long in from n 0 f (omega arith) (omega arith) m.each (r.at _)
