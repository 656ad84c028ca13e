-- Document 01's pictures of aspect 1, touches on a d-pad and overlaps, as questions with their answers.
use Rattle.std.specs.Prelude.{Bool, true, false, List, [], ◌∷◌, ℕ, Float}
use Rattle.std.specs.Float.{binary32}
use Rattle.std.specs.Float.Ieee.{round}
use Rattle.geometry.specs.declared.Rect.{Rect}
use Rattle.geometry.specs.Rect.{new_of, overlaps_of}
use Rattle.layout.specs.declared.Layout.{Layout}
use Rattle.layout.specs.Layout.{empty_layout, with_controller}
use Rattle.search.specs.Search.{clear_picture_aspect_of}
use Rattle.touch.specs.Touch.{mask_near_of}

-- the clear picture of 100 by 100 beside obstacles, the mask of a touch on a d-pad of 100 by 100, and whether two rectangles overlap
pub data Question : Type 0 where
  picture : List Rect → Question
  touch : ℕ → ℕ → Question
  overlap : Rect → Rect → Question

pub data Reply : Type 0 where
  is : Rect → Reply
  mask : ℕ → Reply
  overlaps : Bool → Reply

-- n / d as an f32
abbrev pub ratio : ℕ → ℕ → Float
ratio n d = round binary32 false n d

abbrev pub rect : ℕ → ℕ → ℕ → ℕ → Rect
rect x y w h = new_of (ratio x 1) (ratio y 1) (ratio w 1) (ratio h 1)

abbrev pub only_dpad : Layout
only_dpad = with_controller empty_layout (rect 0 0 100 100) [] 0 [] 0

-- what the definitions answer
unfoldable pub answer : Question → Reply
answer (picture obstacles) = is (clear_picture_aspect_of (ratio 100 1) (ratio 100 1) obstacles (ratio 1 1))
answer (touch x y) = mask (mask_near_of only_dpad (ratio x 1) (ratio y 1) 0)
answer (overlap a b) = overlaps (overlaps_of a b)

-- what the document answers
unfoldable pub cases : List (Question × Reply)
cases =
    (picture [], is (rect 0 0 100 100))
    ∷ (picture (rect 0 0 100 20 ∷ []), is (rect 10 20 80 80))
    ∷ (picture (rect 40 0 20 100 ∷ []), is (rect 0 0 40 40))
    ∷ (picture (rect 0 0 100 100 ∷ []), is (rect 0 0 0 0))
    ∷ (touch 59 50, mask 0)
    ∷ (touch 60 50, mask 128)
    ∷ (touch 60 60, mask 160)
    ∷ (touch 40 40, mask 80)
    ∷ (touch 50 60, mask 32)
    ∷ (overlap (rect 0 0 10 10) (rect 10 0 10 10), overlaps false)
    ∷ (overlap (rect 0 0 10 10) (new_of (ratio 19 2) (ratio 0 1) (ratio 10 1) (ratio 10 1)), overlaps true)
    ∷ []
