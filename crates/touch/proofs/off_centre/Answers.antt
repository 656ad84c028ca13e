-- `off_centre`: a distance is at least each of its sides.
use mathlib.Core.Path.{◌≡◌, sym, ap, ◌∙◌}
use mathlib.Core.Bool.{Bool, true, ◌&&◌}
use lib.Dec.{T}
use lib.Ieee.{Float, binary32, fits, lt, eq}
use denote.Floats.{passes, is_true}
use Rattle.prelude.proofs.Booleans.{both}
use Rattle.float.specs.MinMax.{abs_of}
use Rattle.hypot.specs.Hypot.{hypot_of}
use Rattle.hypot.proofs.Cases.{hypot_comm}
use Rattle.hypot.proofs.AtLeast.{hypot_at_least}
use Rattle.touch.proofs.off_centre.Goals as goal

over : (t a b : Float) {r : Bool} → T (fits binary32 a) → T (fits binary32 b) → r ≡ (lt t (abs_of a) && eq b b) → r ≡ true → true ≡ lt t (hypot_of a b)
over t a b A B p q = let h = both (lt t (abs_of a)) (eq b b) (sym p ∙ q) in sym (is_true (lt t (hypot_of a b)) (hypot_at_least t a b A B (passes _ h.0) (passes _ h.1)))

pub returns-then-beyond : goal.returns-then-beyond
returns-then-beyond c = over c.args.radius c.args.dx c.args.dy (passes _ c.well_formed.0.1) (passes _ c.well_formed.1.0.1) c.beyond.ensures c.if-beyond.true

pub returns-then-beyond-2 : goal.returns-then-beyond-2
returns-then-beyond-2 c =
    over c.args.radius c.args.dy c.args.dx (passes _ c.well_formed.1.0.1) (passes _ c.well_formed.0.1) c.beyond-2.ensures c.if-beyond-2.true
    ∙ ap (lt c.args.radius) (hypot_comm c.args.dy c.args.dx)

pub returns : goal.returns
returns c = ap (lt c.args.radius) c.hypot.ensures
