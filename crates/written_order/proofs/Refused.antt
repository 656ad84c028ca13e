-- Which refusals settings get when they are written, and that every byte of the output stays then.
use mathlib.Core.Path.{◌≡◌, refl}
use mathlib.Core.List.{List}
use Prim.Native.Nat.{ℕ, ◌≤◌}
use native.Mathlib.Omega.{arith}
use Rattle.prelude.specs.Answer.{Answer, accepted, refused}
use Rattle.prelude.proofs.AnswerLaws.{never, must_refused}
use Rattle.settings.specs.declared.Settings.{Settings}
use Rattle.settings.specs.Settings.{tested_of}
use Rattle.wire.proofs.Output.{no_room}
use Rattle.order_writer.specs.OrderBytes.{order_bytes, written_order_of, written_order_output}

-- ---- the tests of settings refuse by 5, 6 or 7
abbrev pub Fault : ℕ → Type 0
Fault n = (5 ≤ n) × (n ≤ 7)

pub tested_refused : (mode fit : ℕ) (s : Settings) {n : ℕ} → tested_of mode fit s ≡ refused n → Fault n
unfolding tested_of
tested_refused mode fit s =
    let five : Fault 5 = omega arith in
    let six : Fault 6 = omega arith in
    let seven : Fault 7 = omega arith in
    must_refused Fault _ 6 _ six
    (must_refused Fault _ 6 _ six
    (must_refused Fault _ 5 _ five
    (must_refused Fault _ 5 _ five
    (must_refused Fault _ 6 _ six
    (must_refused Fault _ 7 _ seven
    (must_refused Fault _ 6 _ six
    (must_refused Fault _ 7 _ seven
    (λ e. absurd (never e)))))))))

-- ---- written, an answer has its own refusal, or 8
pub written_refused : (C : ℕ → Type 0) (a : Answer Settings) (out : List ℕ) {n : ℕ} → C 8 → (a ≡ refused n → C n) → written_order_of a out ≡ refused n → C n × (written_order_output a out ≡ out)
written_refused C (accepted s) out c own e = let r = no_room (order_bytes s) out e in (rw r.0 c, r.1)
written_refused C (refused m) out c own e = (own cc, refl)
