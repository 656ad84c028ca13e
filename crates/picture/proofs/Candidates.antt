-- The first of the candidates that fits, one after the other.
use mathlib.Core.Path.{◌≡◌, refl}
use mathlib.Core.Bool.{Bool, true, false, cond}
use mathlib.Core.List.{List, [], ◌∷◌}
use Rattle.std.specs.Prelude.{Option, Some, None}
use Rattle.std.specs.Option.{IfSome, MatchOption, option_or}
use Rattle.prelude.specs.Lists.{find}
use Rattle.layout.specs.declared.Layout.{Layout}
use Rattle.picture.specs.Picture.{kept, flatten}

first_kept : (fit : Layout → Bool) (o : Option Layout) (candidates : List (Option Layout)) → find fit Some None (flatten (o ∷ candidates)) ≡ option_or (kept fit o) (find fit Some None (flatten candidates))
unfolding flatten
first_kept fit None candidates = refl
first_kept fit (Some l) candidates = go (fit l)
  where
    go : (b : Bool) → cond b (Some l) (find fit Some None (flatten candidates)) ≡ option_or (cond b (Some l) None) (find fit Some None (flatten candidates))
    go true = refl
    go false = refl

pub first_of_three : (fit : Layout → Bool) (a b c : Option Layout) → option_or (option_or (kept fit a) (kept fit b)) (kept fit c) ≡ find fit Some None (flatten (a ∷ b ∷ c ∷ []))
unfolding flatten
first_of_three fit a b c = rw (first_kept fit a (b ∷ c ∷ []), first_kept fit b (c ∷ []), first_kept fit c []) (go (kept fit a) (kept fit b) (kept fit c))
  where
    go : (x y z : Option Layout) → option_or (option_or x y) z ≡ option_or x (option_or y (option_or z None))
    go None None None = refl
    go None None (Some l) = refl
    go None (Some l) z = refl
    go (Some l) y z = refl

-- the other one, where there is none; of both C holds
pub chosen : {A : Type 0} (C : Layout → Type 0) (o q r : Option Layout) → IfSome o C → (A → (r ≡ q) × IfSome r C) → MatchOption o A (λ l. r ≡ Some l) → (r ≡ option_or o q) × IfSome r C
chosen C None q r i f m = f m
chosen C (Some l) q r i f m = (m, rw m i)
