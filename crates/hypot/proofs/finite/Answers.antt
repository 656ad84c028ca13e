-- `finite` meets its contract, on each of its two ways.
use mathlib.Core.Path.{◌≡◌}
use mathlib.Core.Logic.{◌⊎◌}
use Prim.Native.Nat.{ℕ, ◌+◌, ◌*◌, ◌^◌, ◌≤◌}
use native.Mathlib.Omega.{arith}
use Rattle.hypot.specs.Pattern.{pattern_value}
use Rattle.hypot.specs.Parts.{root_of}
use Rattle.hypot.proofs.Ways.{beside_zero, far, near}
use Rattle.hypot.proofs.finite.Goals as goal
use Rattle.hypot.proofs.finite.Goals.{After-root, then-q-eq0-via-then-q-eq0, then-q-eq0-via-else-q-eq0+then-e-f-gt12}

-- near sides: four times the sum of their squares, scaled, and how large its root is
sides : (c : After-root) → let sum : ℕ = pattern_value c.args.p * pattern_value c.args.p + pattern_value c.args.q * pattern_value c.args.q in
    let scaled : ℕ = 2 * c.times_power.result * (2 * c.times_power.result) + 2 * c.significand-2.result * (2 * c.significand-2.result) in
    let place : ℕ = c.exponent-f.result in
    (4 * sum ≡ scaled * (2 ^ place * 2 ^ place)) × ((place ≡ 0) ⊎ (0x200_0000 ≤ root_of scaled))
sides c = near c.args.p c.args.q _ _ _ _ _ c.exponent-e.ensures c.exponent-f.ensures c.significand.ensures c.significand-2.ensures c.times_power.ensures c.requires.q_le_p

-- the larger side by itself
pub returns-then-q-eq0 : goal.returns-then-q-eq0
returns-then-q-eq0 c = elim c.then-q-eq0.branch [
  | then-q-eq0-via-then-q-eq0 w ↦ beside_zero c.args.p c.args.q c.requires.p_bound w.if-q-eq0.true
  | then-q-eq0-via-else-q-eq0+then-e-f-gt12 w ↦ far c.args.p c.args.q c.requires.p_bound (omega arith)
]

pub rounded-requires-clause-w_large : goal.rounded-requires-clause-w_large
rounded-requires-clause-w_large c = rw c.root.ensures (sides (goal.at.rounded-requires-clause-w_large c).After-root).1

pub returns : goal.returns
returns c = c.rounded.ensures _ _ c.root.ensures (sides (goal.at.returns c).After-root).0
