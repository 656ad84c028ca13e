-- The three outcomes of a call, a refusal of 9, one of 10, or its finger made anew; and what the code answers and leaves.
use mathlib.Core.Path.{◌≡◌, refl, sym, ap}
use mathlib.Core.Bool.{Bool, true, false}
use lib.Dec.{leb}
use Rattle.std.proofs.lemmas.List.{get_or-set_same}
use native.Mathlib.Omega.{arith}
use borrow.Author.Tests.{leb-true}
use Rattle.std.specs.declared.result.Result.{Result}
use Rattle.prelude.specs.Answer.{Answer, accepted, refused, must, and_then}
use Rattle.refusal.specs.declared.Refusal.{Refusal}
use Rattle.refusal.specs.Refusal.{answered}
use Rattle.tracker.specs.declared.Tracker.{Tracker}
use Rattle.tracker.specs.declared.Finger.{Finger}
use Rattle.tracker.specs.Tracker.{not_held, finger_at, with_finger, combined_of, Call, finger, allowed_of, made_of, call_of, masks_of, kept_or, answer_of, after_of}
use Rattle.tracker.specs.Promises.{Ten}

module _ (t : Tracker) (c : Call) where
  abbrev own : Finger
  own = finger_at t (finger c)

  abbrev low : Bool
  low = leb (finger c) 9

  abbrev may : Bool
  may = allowed_of c own

  pub above_nine : low ≡ false → call_of t c ≡ refused 9
  unfolding call_of must
  above_nine e = rw e

  pub not_allowed : low ≡ true → may ≡ false → call_of t c ≡ refused 10
  unfolding call_of must
  not_allowed e f = rw (e, f)

  pub allowed : low ≡ true → may ≡ true → call_of t c ≡ accepted (with_finger t (finger c) (made_of c own))
  unfolding call_of must
  allowed e f = rw (e, f)

  -- what each outcome has, the call has
  pub by_outcome : (P : Answer Tracker → Type 0) → (low ≡ false → P (refused 9)) → (low ≡ true → may ≡ false → P (refused 10)) → (low ≡ true → may ≡ true → P (accepted (with_finger t (finger c) (made_of c own)))) → P (call_of t c)
  by_outcome P nine ten made = go low may refl refl
    where
      go : (l m : Bool) → low ≡ l → may ≡ m → P (call_of t c)
      go true true e f = rw (allowed e f) (made e f)
      go true false e f = rw (not_allowed e f) (ten e f)
      go false m e f = rw (above_nine e) (nine e)

  pub stored : Ten t → (f : Finger) → low ≡ true → finger_at (with_finger t (finger c) f) (finger c) ≡ f
  stored ten f e = let h = leb-true (finger c) 9 e in get_or-set_same t.fingers (finger c) f not_held (omega arith)

  -- what the code answers and leaves, with what it makes of the finger that the call is of
  module _ (ten : Ten t) (called made : Result Finger Refusal) (is : answered called ≡ must low 9 (must may 10 (accepted own))) (makes : answered made ≡ and_then (answered called) (λ f. accepted (made_of c f))) where
    pub answers : and_then (answered made) (λ f. accepted (f.mask, combined_of (with_finger t (finger c) f))) ≡ answer_of t c
    unfolding call_of must
    answers = rw (makes, is) (go low may refl refl)
      where
        go : (l m : Bool) → low ≡ l → may ≡ m
            → and_then (and_then (must l 9 (must m 10 (accepted own))) (λ f. accepted (made_of c f))) (λ f. accepted (f.mask, combined_of (with_finger t (finger c) f)))
            ≡ masks_of (finger c) (must l 9 (must m 10 (accepted (with_finger t (finger c) (made_of c own)))))
        go true true e f = ap (λ (g : Finger). accepted (g.mask, combined_of (with_finger t (finger c) (made_of c own)))) (sym (stored ten (made_of c own) e))
        go true false e f = refl
        go false m e f = refl

    pub leaves : kept_or t (and_then (answered made) (λ f. accepted (with_finger t (finger c) f))) ≡ after_of t c
    unfolding call_of must
    leaves = rw (makes, is) (go low may)
      where
        go : (l m : Bool)
            → kept_or t (and_then (and_then (must l 9 (must m 10 (accepted own))) (λ f. accepted (made_of c f))) (λ f. accepted (with_finger t (finger c) f)))
            ≡ kept_or t (must l 9 (must m 10 (accepted (with_finger t (finger c) (made_of c own)))))
        go true true = refl
        go true false = refl
        go false m = refl
