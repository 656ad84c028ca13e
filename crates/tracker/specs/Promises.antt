-- What may be counted on of a tracker; each is proved, under its own name, in `proofs/TrackerLaws.antt`. The words in quotation marks are document 02's.
use Rattle.std.specs.Prelude.{◌≡◌, false, ◌&&◌, List, ◌⊎◌, ℕ, ◌<◌, ◌≤◌, length}
use Rattle.prelude.specs.Answer.{accepted, refused}
use Rattle.prelude.specs.Bits.{has_bit}
use Rattle.std.specs.List.{list_any}
use Rattle.layout.specs.declared.Layout.{Layout}
use Rattle.tracker.specs.declared.Tracker.{Tracker}
use Rattle.tracker.specs.Tracker.{is_held_of, fresh_of, finger_at, combined_of, Call, Lift, finger, allowed_of, made_of, call_of, answer_of, after_of}
use Rattle.tracker.specs.Runs.{after_all, calls_of, answers_to}

-- in the logic a tracker's array is any list; a program's has ten places
abbrev pub Ten : Tracker → Type 0
Ten t = length t.fingers ≡ 10

-- "The combined mask has a bit set exactly if some held finger has it."
abbrev pub CombinedBits : Type 0
CombinedBits = (t : Tracker) (i : ℕ) → has_bit (combined_of t) i ≡ list_any (λ f. is_held_of f && has_bit f.mask i) t.fingers

-- "a fresh tracker holds no finger"
abbrev pub FreshHoldsNone : Type 0
FreshHoldsNone = Ten fresh_of × (list_any is_held_of fresh_of.fingers ≡ false)

-- "An accepted call returns that finger's mask, 0 after a lift, and the combined mask", both of the tracker after the call.
abbrev pub AcceptedMasks : Type 0
AcceptedMasks =
    (t : Tracker) (c : Call) (mask combined : ℕ) → Ten t → answer_of t c ≡ accepted (mask, combined) →
    let after = after_of t c in
    (finger_at after (finger c) ≡ made_of c (finger_at t (finger c))) × (mask ≡ (finger_at after (finger c)).mask) × (combined ≡ combined_of after)

abbrev pub LiftedMask : Type 0
LiftedMask = (t : Tracker) (i : ℕ) (l : Layout) (mask combined : ℕ) → Ten t → answer_of t (Lift i l) ≡ accepted (mask, combined) → mask ≡ 0

-- A lift is over an accepted layout too, whichever it is.
abbrev pub LiftOverAny : Type 0
LiftOverAny = (t : Tracker) (i : ℕ) (l m : Layout) → call_of t (Lift i l) ≡ call_of t (Lift i m)

-- "It refuses with 9 a finger above 9, then with 10 a press of a held finger or a move or lift of one not held"
abbrev pub Refusals : Type 0
Refusals =
    (t : Tracker) (c : Call) (n : ℕ) → call_of t c ≡ refused n →
    ((n ≡ 9) × (9 < finger c)) ⊎ ((n ≡ 10) × (finger c ≤ 9) × (allowed_of c (finger_at t (finger c)) ≡ false))

-- A refused call keeps the whole tracker.
abbrev pub RefusedKeeps : Type 0
RefusedKeeps = (t : Tracker) (c : Call) (n : ℕ) → answer_of t c ≡ refused n → after_of t c ≡ t

-- "No other finger's call alters a finger's mask", nor whether it is held.
abbrev pub OthersKept : Type 0
OthersKept = (t : Tracker) (c : Call) (k : ℕ) → (finger c ≡ k → ⊥) → finger_at (after_of t c) k ≡ finger_at t k

-- "from a fresh tracker it depends only on its own calls and their layouts": so does what these calls are answered.
abbrev pub OwnCallsAlone : Type 0
OwnCallsAlone =
    (k : ℕ) (cs ds : List Call) → calls_of k cs ≡ calls_of k ds →
    (finger_at (after_all fresh_of cs) k ≡ finger_at (after_all fresh_of ds) k) × (answers_to k fresh_of cs ≡ answers_to k fresh_of ds)

-- All other fingers' calls may be left out.
abbrev pub OthersLeftOut : Type 0
OthersLeftOut =
    (k : ℕ) (cs : List Call) →
    (finger_at (after_all fresh_of cs) k ≡ finger_at (after_all fresh_of (calls_of k cs)) k) × (answers_to k fresh_of cs ≡ answers_to k fresh_of (calls_of k cs))
