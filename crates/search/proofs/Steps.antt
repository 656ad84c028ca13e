-- The searches fold over what their loops yield: one more item.
use mathlib.Core.Path.{◌≡◌}
use mathlib.Core.List.{List, [], ◌∷◌, ◌++◌, foldl, foldl-append}

pub fold_more : {A B : Type 0} (f : B → A → B) (z : B) (xs : List A) (x : A) → foldl f z (xs ++ x ∷ []) ≡ f (foldl f z xs) x
fold_more f z xs x = rw foldl-append
