-- An infinity, then a NaN, then the root of two finite numbers: the definition's cases in its order.
use mathlib.Core.Path.{◌∙◌}
use denote.Floats.{passes}
use native.Mathlib.Omega.{arith}
use Rattle.hypot.proofs.Cases.{finite_both}
use Rattle.hypot.proofs.exact.Goals as goal

pub returns : goal.returns
returns c =
    c.finite.ensures
    ∙ finite_both c.args.a c.args.b (passes _ c.well_formed.0.1) (passes _ c.well_formed.1.0.1) _ _ _ _ c.unsigned_pattern-p.ensures c.unsigned_pattern-q.ensures c.max.ensures
    c.min.ensures (omega arith) (omega arith)
