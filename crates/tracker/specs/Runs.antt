-- Calls one after the other: what they leave of a tracker, which are one finger's, and what these are answered.
use Rattle.std.specs.Prelude.{cond, List, [], ◌∷◌, ℕ, eqb}
use Rattle.prelude.specs.Answer.{Answer, accepted, and_then}
use Rattle.prelude.specs.Lists.{retain}
use Rattle.tracker.specs.declared.Tracker.{Tracker}
use Rattle.tracker.specs.Tracker.{Call, finger, answer_of, after_of}

-- the tracker after all of them
abbrev pub after_all : Tracker → List Call → Tracker
after_all t [] = t
after_all t (c ∷ cs) = after_all (after_of t c) cs

-- those of finger k
abbrev pub calls_of : ℕ → List Call → List Call
calls_of k cs = retain (λ c. eqb (finger c) k) cs

-- an answer without the combined mask, which is all fingers'
abbrev pub own_mask : Answer (ℕ × ℕ) → Answer ℕ
own_mask answer = and_then answer (λ masks. accepted masks.0)

-- what finger k's calls are answered: its masks and refusals
abbrev pub answers_to : ℕ → Tracker → List Call → List (Answer ℕ)
answers_to k t [] = []
answers_to k t (c ∷ cs) =
    let later = answers_to k (after_of t c) cs in
    cond (eqb (finger c) k) (own_mask (answer_of t c) ∷ later) later
