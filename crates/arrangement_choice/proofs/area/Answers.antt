-- The area below the toolbar over the blank layout is the one over every layout, by `same_below`.
use mathlib.Core.Path.{◌∙◌}
use lib.Dec.{T}
use lib.Ieee.{le}
use native.Mathlib.Omega.{arith}
use borrow.Author.Rules.{rules}
use Rattle.float.specs.Float.{k0}
use Rattle.float.proofs.Ends.{zero_le_max}
use Rattle.arrangement_choice.proofs.Keys.{same_below}
use Rattle.arrangement_choice.specs.Choice.{area_of}
use Rattle.arrangement_choice.proofs.area.Goals as goal

pub anchor_toolbar-bar-requires : goal.anchor_toolbar-bar-requires
anchor_toolbar-bar-requires c =
    let top : T (le k0 c.reusable_top.result) = rw c.reusable_top.ensures (zero_le_max _) in
    search (rules, arith)

pub returns-then-maximum : goal.returns-then-maximum
unfolding area_of
returns-then-maximum c l =
    let a = c.args in
    let below = rw c.anchor_toolbar-bar.ensures at c.below_toolbar.ensures in
    let same = same_below a.w a.h a.cutouts.now a.picture _ l _ in
    rw c.if-maximum.true (below ∙ rw c.reusable_top.ensures same)
