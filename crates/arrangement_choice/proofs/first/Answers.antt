-- The start is of its mode, so that the toolbar may be anchored on it; the reusable top is at least 0.
use mathlib.Core.Bool.{◌||◌}
use lib.Dec.{T}
use lib.Ieee.{le}
use borrow.Author.Rules.{rules}
use Rattle.float.specs.Float.{k0}
use Rattle.float.proofs.Ends.{zero_le_max}
use Rattle.layout.specs.Labels.{OfMode}
use Rattle.layout.specs.Layout.{Few}
use Rattle.layout.proofs.LabelLaws.{few}
use Rattle.arrangement_choice.proofs.ChoiceLabels.{start_mode}
use Rattle.arrangement_choice.proofs.first.Goals as goal

pub anchor_toolbar-requires : goal.anchor_toolbar-requires
anchor_toolbar-requires c =
    let a = c.args in
    let mode : OfMode (a.marked || a.psp) a.psp c.start-layout.result = rw c.start-layout.ensures (start_mode _ _ _ _ a.marked a.psp) in
    let counts : Few c.start-layout.result = few (a.marked || a.psp) a.psp c.start-layout.result mode in
    let top : T (le k0 c.reusable_top.result) = rw c.reusable_top.ensures (zero_le_max _) in
    search rules
