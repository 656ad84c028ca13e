-- The rails where they win, else the layout that they are compared with; the cutout pass keeps its labels, and so its counts.
use Prim.Native.Nat.{◌≤◌}
use lib.ListN.{length}
use mathlib.Core.Bool.{true}
use borrow.Author.Rules.{rules}
use Rattle.layout.specs.Actions.{action_elements_of}
use Rattle.layout.specs.Labels.{OfMode}
use Rattle.layout.specs.Layout.{Few}
use Rattle.layout.proofs.LabelLaws.{few, few_faces}
use Rattle.cutouts.proofs.CutoutLabels.{avoid_mode}
use Rattle.arrangement_choice.proofs.try_rails.Goals as goal

pub avoid_cutouts-requires : goal.avoid_cutouts-requires
avoid_cutouts-requires c =
    let a = c.args in
    let counts : Few a.layout = few true a.psp a.layout c.requires.1 in
    let faces : length (action_elements_of a.layout) ≤ 4 = few_faces true a.psp a.layout c.requires.1 in
    search rules

pub place_game_in_aspect-clear-requires : goal.place_game_in_aspect-clear-requires
place_game_in_aspect-clear-requires c =
    let a = c.args in
    let mode : OfMode true a.psp c.avoid_cutouts.result = rw c.avoid_cutouts.ensures (avoid_mode true a.psp a.layout c.requires.1 _ _ _) in
    few true a.psp c.avoid_cutouts.result mode
