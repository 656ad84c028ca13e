-- `controller_elements`: what was pushed is `element` at each index but the toolbar's.
use native.Mathlib.Omega.{arith}
use mathlib.Core.Path.{◌≡◌, ap, sym, ◌∙◌}
use lib.ListN.{take}
use lib.Seq.{take_all}
use Rattle.std.specs.Prelude.{◌∷◌, ◌++◌}
use Rattle.layout.specs.Layout.{bounds_of, stick_list}
use Rattle.layout.proofs.ArrayLaws.{array_lengths}
use Rattle.layout.proofs.ElementLaws.{controller_elements_lem}
use Rattle.layout.proofs.Layout.controller_elements.Goals as goal

pub returns-clause-items : goal.returns-clause-items
returns-clause-items c =
    let s = c.args.self in
    let arrays = array_lengths s c.well_formed.0 in
    let all : take c.loop-r.r-index (stick_list s) ≡ stick_list s = take_all c.loop-r.r-index (stick_list s) (rw c.stick_list-r-items.ensures at c.loop-r-test.false) in
    c.loop-r.invariant.items ∙ ap (λ t. s.dpad ∷ (bounds_of s ++ t)) all ∙ sym (controller_elements_lem s (omega arith) (omega arith))
