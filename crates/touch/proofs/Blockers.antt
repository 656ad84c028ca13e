-- What may block a touch, asked one after the other.
use mathlib.Core.Path.{◌≡◌, refl, ap, ◌∙◌}
use mathlib.Core.Bool.{Bool, true, false, cond, not, ◌&&◌, ◌||◌}
use mathlib.Core.List.{List, [], ◌∷◌}
use lib.Ieee.{Float}
use Rattle.std.specs.List.{list_any}
use Rattle.std.proofs.lemmas.List.Folds.{list_any-append}
use Rattle.prelude.specs.Lists.{filter_map}
use Rattle.geometry.specs.declared.Rect.{Rect}
use Rattle.geometry.specs.Rect.{contains_of}
use Rattle.layout.specs.declared.Layout.{Layout}
use Rattle.layout.specs.Label.{is_face_of}
use Rattle.layout.specs.Layout.{control_list}
use Rattle.touch.specs.Touch.{other_holds_of, is_free_of}

-- f of those that pass the test p
any_filter_map : {A B : Type 0} (p : A → Bool) (f : A → B) (q : B → Bool) (xs : List A) → list_any q (filter_map p f xs) ≡ list_any (λ a. p a && q (f a)) xs
any_filter_map p f q [] = refl
any_filter_map p f q (x ∷ xs) = go (p x) (any_filter_map p f q xs)
  where
    go : (b : Bool) → list_any q (filter_map p f xs) ≡ list_any (λ a. p a && q (f a)) xs
        → list_any q (cond b (f x ∷ filter_map p f xs) (filter_map p f xs)) ≡ ((b && q (f x)) || list_any (λ a. p a && q (f a)) xs)
    go true e = ap (λ t. q (f x) || t) e
    go false e = e

-- six rectangles, and behind them the controls
pub none_holds : (l : Layout) (x y : Float)
    → is_free_of l x y
    ≡ (not (list_any (λ r. contains_of r x y) (l.game ∷ l.dpad ∷ l.pause ∷ l.playback ∷ l.speed ∷ l.mute ∷ [])) && not (list_any (other_holds_of x y) (control_list l)))
unfolding is_free_of other_holds_of
none_holds l x y =
    let holds : Rect → Bool = λ r. contains_of r x y in
    ap not (list_any-append holds (l.game ∷ l.dpad ∷ l.pause ∷ l.playback ∷ l.speed ∷ l.mute ∷ []) _
    ∙ ap (λ t. list_any holds (l.game ∷ l.dpad ∷ l.pause ∷ l.playback ∷ l.speed ∷ l.mute ∷ []) || t) (any_filter_map (λ c. not (is_face_of c.label)) (λ c. c.bounds) holds (control_list l)))
    ∙ neither (list_any holds (l.game ∷ l.dpad ∷ l.pause ∷ l.playback ∷ l.speed ∷ l.mute ∷ [])) _
  where
    neither : (a b : Bool) → not (a || b) ≡ (not a && not b)
    neither true b = refl
    neither false b = refl

-- free space lies outside the picture and the d-pad
pub free_outside : (l : Layout) (x y : Float) → is_free_of l x y ≡ true → (not (contains_of l.game x y) && not (contains_of l.dpad x y)) ≡ true
unfolding is_free_of
free_outside l x y = go (contains_of l.game x y) (contains_of l.dpad x y) _
  where
    go : (a b c : Bool) → not (a || (b || c)) ≡ true → (not a && not b) ≡ true
    go true b c h = h
    go false true c h = h
    go false false c h = refl
