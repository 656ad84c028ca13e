-- A finite side raised to 1 is finite and at least 0, as `laid_out` asks.
use lib.Dec.{T}
use lib.Ieee.{Float, lt, le, ne, is_nan, of_bits}
use lib.Ieee.Scale.{finite}
use mathlib.Core.Path.{◌≡◌}
use Rattle.prelude.proofs.Booleans.{either}
use Rattle.float.specs.Float.{k0, k1}
use Rattle.float.specs.MinMax.{max_of}
use Rattle.float.proofs.Ends.{le_trans, le_max_right}
use Rattle.preset.specs.Preset.{layout_in_of}
use Rattle.preset.proofs.layout_in.Goals as goal

-- a finite side, raised to 1
raised : (x : Float) {r : Float} → T (finite x) → r ≡ max_of x k1 → T (finite r) × T (le k0 r)
unfolding max_of is_nan le of_bits
raised x p e =
    let C : Float → Type 0 = λ z. T (finite z) in
    rw e (either C (ne x x) tt (either C (lt x k1) tt p), le_trans k0 k1 (max_of x k1) tt (le_max_right x k1 tt))

pub laid_out-requires : goal.laid_out-requires
unfolding layout_in_of
laid_out-requires c =
    let p = c.requires in
    let w = raised c.args.w p.2 c.max.ensures in
    let h = raised c.args.h p.3 c.max-2.ensures in
    (p.0, p.1, w.0, h.0, w.1, h.1)

pub returns : goal.returns
unfolding layout_in_of
returns c = rw (← c.max.ensures, ← c.max-2.ensures) c.laid_out.ensures
