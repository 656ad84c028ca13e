-- Where an element can be after the cutout pass.
use Rattle.std.specs.Prelude.{◌≡◌, true, List, [], ◌∷◌, ◌⊎◌, T, Float}
use Rattle.std.specs.Float.{binary32}
use Rattle.std.specs.Float.Ieee.{fits}
use Rattle.geometry.specs.declared.Rect.{Rect}
use Rattle.geometry.specs.Rect.{inside_of}

-- on a screen of w by h as f32 reckons, at an f32 corner, and as large as it was
pub record Moved (w h : Float) (old new : Rect) : Type 0 where
  pub inside : inside_of new w h ≡ true
  pub fitsx : T (fits binary32 new.x)
  pub fitsy : T (fits binary32 new.y)
  pub width : new.w ≡ old.w
  pub height : new.h ≡ old.h

abbrev pub Settled : Float → Float → Rect → Rect → Type 0
Settled w h old new = (new ≡ old) ⊎ Moved w h old new

-- two lists of one length, element by element
pub data AllSettled (w h : Float) : List Rect → List Rect → Type 0 where
  none : AllSettled w h [] []
  next : {x y : Rect} {xs ys : List Rect} → Settled w h x y → AllSettled w h xs ys → AllSettled w h (x ∷ xs) (y ∷ ys)
