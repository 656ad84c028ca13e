-- Ten fingers on one film (document 02, W-203): what a press, a move and a lift make of a tracker, and what they answer. The words in quotation marks are the paper's.
use Rattle.std.specs.Prelude.{Bool, not, cond, ℕ, eqb, leb, Float, get_or, set, replicate}
use mathlib.Core.List.{foldl}
use Rattle.std.specs.Int.Bits.{bit_or}
use Rattle.prelude.specs.Answer.{Answer, accepted, refused, must, and_then}
use Rattle.layout.specs.declared.Layout.{Layout}
use Rattle.touch.specs.Touch.{mask_near_of}
use Rattle.tracker.specs.declared.Finger.{Finger}
use Rattle.tracker.specs.declared.Tracker.{Tracker}

-- ---- trackers

abbrev pub not_held : Finger
not_held = record { held = 0; mask = 0 }

-- Whatever numbers are lent are a tracker: 0 says that a finger is not held, every other number that it is.
abbrev pub is_held_of : Finger → Bool
is_held_of f = not (eqb f.held 0)

-- "a fresh tracker holds no finger"
unfoldable pub fresh_of : Tracker
fresh_of = record { fingers = replicate 10 not_held }

abbrev pub finger_at : Tracker → ℕ → Finger
finger_at t i = get_or t.fingers i not_held

abbrev pub with_finger : Tracker → ℕ → Finger → Tracker
with_finger t i f = record { fingers = set t.fingers i f }

-- what a finger has in the combined mask
unfoldable pub held_mask_of : Finger → ℕ
held_mask_of f = cond (is_held_of f) f.mask 0

unfoldable pub joined_of : ℕ → Finger → ℕ
joined_of mask f = bit_or mask (held_mask_of f)

-- the combined mask
unfoldable pub combined_of : Tracker → ℕ
combined_of t = foldl joined_of 0 t.fingers

-- ---- calls

-- of a finger, a press and a move at a point, each "over an accepted layout"
pub data Call : Type 0 where
  Press : ℕ → Float → Float → Layout → Call
  MoveTo : ℕ → Float → Float → Layout → Call
  Lift : ℕ → Layout → Call

abbrev pub finger : Call → ℕ
finger (Press i x y l) = i
finger (MoveTo i x y l) = i
finger (Lift i l) = i

-- a press is of a finger that is not held, a move or lift of one that is
abbrev pub allowed_of : Call → Finger → Bool
allowed_of (Press i x y l) f = not (is_held_of f)
allowed_of (MoveTo i x y l) f = is_held_of f
allowed_of (Lift i l) f = is_held_of f

-- "A press starts from previous mask 0; a move takes that finger's own last mask as previous."
abbrev pub made_of : Call → Finger → Finger
made_of (Press i x y l) f = record { held = 1; mask = mask_near_of l x y 0 }
made_of (MoveTo i x y l) f = record { held = 1; mask = mask_near_of l x y f.mask }
made_of (Lift i l) f = not_held

-- the tracker that an accepted call leaves, or the refusal: "with 9 a finger above 9, then with 10"
unfoldable pub call_of : Tracker → Call → Answer Tracker
call_of t c =
    let f = finger_at t (finger c) in
    must (leb (finger c) 9) 9 (must (allowed_of c f) 10 (accepted (with_finger t (finger c) (made_of c f))))

-- "An accepted call returns that finger's mask, 0 after a lift, and the combined mask"
abbrev pub masks_of : ℕ → Answer Tracker → Answer (ℕ × ℕ)
masks_of i left = and_then left (λ t. accepted ((finger_at t i).mask, combined_of t))

-- on any refusal "the tracker then keeps its state"
abbrev pub kept_or : Tracker → Answer Tracker → Tracker
kept_or t (accepted left) = left
kept_or t (refused n) = t

-- what a call answers, and the tracker afterwards
abbrev pub answer_of : Tracker → Call → Answer (ℕ × ℕ)
answer_of t c = masks_of (finger c) (call_of t c)

abbrev pub after_of : Tracker → Call → Tracker
after_of t c = kept_or t (call_of t c)
