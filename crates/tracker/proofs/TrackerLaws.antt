-- What may be counted on of a tracker, as `specs/Promises.antt` states it.
use mathlib.Core.Path.{◌≡◌, refl, ap, sym, ◌∙◌}
use mathlib.Core.Bool.{Bool, true, false, cond, ◌&&◌, ◌||◌, or-false, or_assoc}
use mathlib.Core.List.{List, [], ◌∷◌, foldl}
use mathlib.Core.Logic.{◌⊎◌, inl, inr}
use Prim.Native.Nat.{ℕ, ◌<◌, ◌≤◌}
use lib.Dec.{eqb, leb}
use lib.ListN.{length-set}
use lib.Seq.{get_or-set_other}
use borrow.Author.Tests.{eqb-true, eqb-false, leb-true, leb-false}
use Rattle.prelude.specs.Answer.{Answer, accepted, refused}
use Rattle.prelude.specs.Bits.{has_bit}
use Rattle.std.specs.List.{list_any}
use Rattle.prelude.proofs.AnswerLaws.{never}
use Rattle.prelude.proofs.BitLaws.{no_bit, or_bit}
use Rattle.tracker.specs.declared.Finger.{Finger}
use Rattle.tracker.specs.declared.Tracker.{Tracker}
use Rattle.tracker.specs.Tracker.{not_held, is_held_of, fresh_of, finger_at, held_mask_of, joined_of, combined_of, Call, Lift, finger, allowed_of, made_of, call_of, masks_of, kept_or, answer_of, after_of}
use Rattle.tracker.specs.Runs.{after_all, calls_of, own_mask, answers_to}
use Rattle.tracker.proofs.CallLaws.{stored, by_outcome}
use Rattle.tracker.specs.Promises.{Ten, CombinedBits, FreshHoldsNone, AcceptedMasks, LiftedMask, LiftOverAny, Refusals, RefusedKeeps, OthersKept, OwnCallsAlone, OthersLeftOut}

-- ---- the combined mask
abbrev Has : ℕ → Finger → Bool
Has i f = is_held_of f && has_bit f.mask i

held_bit : (f : Finger) (i : ℕ) → has_bit (held_mask_of f) i ≡ Has i f
unfolding held_mask_of
held_bit f i = go (is_held_of f)
  where
    go : (held : Bool) → has_bit (cond held f.mask 0) i ≡ (held && has_bit f.mask i)
    go true = refl
    go false = no_bit i

joined_bits : (fs : List Finger) (mask i : ℕ) → has_bit (foldl joined_of mask fs) i ≡ (has_bit mask i || list_any (Has i) fs)
unfolding joined_of
joined_bits [] mask i = sym (or-false (has_bit mask i))
joined_bits (f ∷ fs) mask i = joined_bits fs (joined_of mask f) i ∙ rw (or_bit mask (held_mask_of f) i, held_bit f i) (or_assoc (has_bit mask i) (Has i f) _)

pub combined_bits : CombinedBits
unfolding combined_of
combined_bits t i = joined_bits t.fingers 0 i ∙ ap (λ b. b || list_any (Has i) t.fingers) (no_bit i)

-- ---- a fresh tracker
pub fresh_holds_none : FreshHoldsNone
unfolding fresh_of
fresh_holds_none = (refl, refl)

-- ---- one call
pub accepted_masks : AcceptedMasks
accepted_masks t c mask combined ten =
    by_outcome t c
    (λ a. masks_of (finger c) a ≡ accepted (mask, combined) → let after = kept_or t a in (finger_at after (finger c) ≡ made_of c (finger_at t (finger c))) × (mask ≡ (finger_at after (finger c)).mask) × (combined ≡ combined_of after))
    (λ e r. absurd (never (sym r)))
    (λ e f r. absurd (never (sym r)))
    (λ e f r. let p = same r in (stored t c ten _ e, sym (ap (λ q. q.0) p), sym (ap (λ q. q.1) p)))
  where
    same : {x y : ℕ × ℕ} → accepted x ≡ accepted y → x ≡ y
    same r = cc

pub lifted_mask : LiftedMask
lifted_mask t i l mask combined ten e = let m = accepted_masks t (Lift i l) mask combined ten e in m.1 ∙ ap (λ (f : Finger). f.mask) m.0

pub lift_over_any : LiftOverAny
unfolding call_of
lift_over_any t i l m = refl

pub refusals : Refusals
refusals t c n =
    by_outcome t c (λ a. a ≡ refused n → ((n ≡ 9) × (9 < finger c)) ⊎ ((n ≡ 10) × (finger c ≤ 9) × (allowed_of c (finger_at t (finger c)) ≡ false)))
    (λ e r. inl (cc, leb-false (finger c) 9 e))
    (λ e f r. inr (cc, leb-true (finger c) 9 e, f))
    (λ e f r. absurd (never r))

pub refused_keeps : RefusedKeeps
refused_keeps t c n = by_outcome t c (λ a. masks_of (finger c) a ≡ refused n → kept_or t a ≡ t) (λ e r. refl) (λ e f r. refl) (λ e f r. absurd (never r))

pub others_kept : OthersKept
others_kept t c k other =
    by_outcome t c (λ a. finger_at (kept_or t a) k ≡ finger_at t k) (λ e. refl) (λ e f. refl) (λ e f. get_or-set_other t.fingers (finger c) k _ not_held (λ g. other (sym g)))

still_ten : (t : Tracker) (c : Call) → Ten t → Ten (after_of t c)
still_ten t c ten = by_outcome t c (λ a. Ten (kept_or t a)) (λ e. ten) (λ e f. ten) (λ e f. length-set t.fingers (finger c) _ ∙ ten)

-- ---- a finger's own call: what it leaves of the finger, and what it answers but for the combined mask, follow from the finger alone
abbrev turned : Call → Finger → Finger
turned c f = cond (leb (finger c) 9) (cond (allowed_of c f) (made_of c f) f) f

abbrev reply : Call → Finger → Answer ℕ
reply c f = cond (leb (finger c) 9) (cond (allowed_of c f) (accepted (made_of c f).mask) (refused 10)) (refused 9)

own_call : (t : Tracker) (c : Call) → Ten t → let f = finger_at t (finger c) in (finger_at (after_of t c) (finger c) ≡ turned c f) × (own_mask (answer_of t c) ≡ reply c f)
own_call t c ten =
    by_outcome t c (λ a. (finger_at (kept_or t a) (finger c) ≡ turned c (finger_at t (finger c))) × (own_mask (masks_of (finger c) a) ≡ reply c (finger_at t (finger c))))
    (λ e. rw e (refl, refl))
    (λ e f. rw (e, f) (refl, refl))
    (λ e f. let s = stored t c ten (made_of c (finger_at t (finger c))) e in rw (e, f) (s, rw s refl))

-- ---- a run of calls: finger k is the same in two trackers, and one of them gets k's calls alone
abbrev Alike : ℕ → Tracker → Tracker → Type 0
Alike k t u = Ten t × Ten u × (finger_at t k ≡ finger_at u k)

abbrev Agree : ℕ → Tracker → Tracker → List Call → Type 0
Agree k t u cs = (finger_at (after_all t cs) k ≡ finger_at (after_all u (calls_of k cs)) k) × (answers_to k t cs ≡ answers_to k u (calls_of k cs))

one_call : (k : ℕ) (t u : Tracker) (c : Call) (cs : List Call) → Alike k t u → ((t u : Tracker) → Alike k t u → Agree k t u cs) → (own : Bool) → eqb (finger c) k ≡ own → Agree k t u (c ∷ cs)
one_call k t u c cs (l, m, e) later true h =
    let i = eqb-true (finger c) k h in
    let f : finger_at t (finger c) ≡ finger_at u (finger c) = rw i e in
    let p = own_call t c l in
    let q = own_call u c m in
    let r = later (after_of t c) (after_of u c) (still_ten t c l, still_ten u c m, rw (← i) (p.0 ∙ ap (turned c) f ∙ sym q.0)) in
    let answer = p.1 ∙ ap (reply c) f ∙ sym q.1 in
    rw h (r.0, rw h (λ j. answer j ∷ r.1 j))
one_call k t u c cs (l, m, e) later false h = rw h (later (after_of t c) u (still_ten t c l, m, others_kept t c k (eqb-false (finger c) k h) ∙ e))

alone : (k : ℕ) (cs : List Call) (t u : Tracker) → Alike k t u → Agree k t u cs
alone k [] t u a = (a.2, refl)
alone k (c ∷ cs) t u a = one_call k t u c cs a (λ v w. alone k cs v w) (eqb (finger c) k) refl

pub others_left_out : OthersLeftOut
unfolding fresh_of
others_left_out k cs = alone k cs fresh_of fresh_of (refl, refl, refl)

pub own_calls_alone : OwnCallsAlone
own_calls_alone k cs ds e =
    let p = others_left_out k cs in
    let q = others_left_out k ds in
    (p.0 ∙ ap (λ ls. finger_at (after_all fresh_of ls) k) e ∙ sym q.0, p.1 ∙ ap (answers_to k fresh_of) e ∙ sym q.1)
