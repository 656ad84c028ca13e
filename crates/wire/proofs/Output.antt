-- What putting bytes at the start of an output answers and leaves there: too few places, or a run of stores from the start.
use mathlib.Core.Path.{◌≡◌, refl, ◌∙◌}
use mathlib.Core.Bool.{Bool, true, false, cond}
use mathlib.Core.List.{List, ◌++◌}
use Prim.Native.Nat.{ℕ, ◌<◌, ◌≤◌}
use native.Mathlib.Omega.{arith}
use borrow.Author.Tests.{le-leb, lt-leb}
use lib.Dec.{leb}
use lib.ListN.{length, drop}
use Rattle.prelude.specs.Answer.{accepted, refused, must}
use Rattle.prelude.specs.Lists.{stored}
use Rattle.prelude.proofs.AnswerLaws.{never}
use Rattle.prelude.proofs.Stores.{stored_all}
use Rattle.wire.specs.Wire.{room_for, with_front}

module _ (bytes out : List ℕ) {n : ℕ} (is : n ≡ length bytes) where
  pub too_small : length out < n → (refused 8 ≡ room_for (length bytes) out) × (out ≡ with_front bytes out)
  unfolding must
  too_small h = let g = lt-leb (length bytes) (length out) (omega arith) in (rw g, rw g)

  pub has_room : {end : List ℕ} → n ≤ length out → end ≡ stored out 0 bytes → (accepted n ≡ room_for (length bytes) out) × (end ≡ with_front bytes out)
  unfolding must
  has_room h p = let g = le-leb (length bytes) (length out) (omega arith) in (rw (g, is), rw g (p ∙ stored_all out bytes (omega arith)))

-- the refusal is 8, and then every byte stays
pub no_room : (bytes out : List ℕ) {n : ℕ} → room_for (length bytes) out ≡ refused n → (n ≡ 8) × (with_front bytes out ≡ out)
unfolding must
no_room bytes out {n} = go (leb (length bytes) (length out))
  where
    go : (b : Bool) → must b 8 (accepted (length bytes)) ≡ refused n → (n ≡ 8) × (cond b (bytes ++ drop (length bytes) out) out ≡ out)
    go true e = absurd (never e)
    go false e = (cc, refl)
