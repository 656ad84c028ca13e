-- The layout is of its mode, and the toolbar keeps that, so that it may be anchored twice.
use borrow.Author.Rules.{rules}
use Rattle.layout.specs.Labels.{OfMode}
use Rattle.layout.specs.Layout.{Few}
use Rattle.layout.proofs.LabelLaws.{few}
use Rattle.toolbar.proofs.ToolbarLabels.{anchor_mode}
use Rattle.preset.specs.Preset.{analog_of}
use Rattle.preset.proofs.PresetLabels.{layout_mode}
use Rattle.preset.proofs.viewport_layout.Goals as goal
use Rattle.preset.proofs.viewport_layout.Goals.{After-layout_in-layout}

laid : (c : After-layout_in-layout) → let p = c.args.p in OfMode (analog_of p) p.psp c.layout_in-layout.result
laid c = rw c.layout_in-layout.ensures (layout_mode c.args.p _ _ _ _)

pub anchor_toolbar-anchored-requires : goal.anchor_toolbar-anchored-requires
anchor_toolbar-anchored-requires c =
    let p = c.args.p in
    let counts : Few c.layout_in-layout.result = few (analog_of p) p.psp c.layout_in-layout.result (laid (goal.at.anchor_toolbar-anchored-requires c).After-layout_in-layout) in
    search rules

pub anchor_toolbar-requires : goal.anchor_toolbar-requires
anchor_toolbar-requires c =
    let p = c.args.p in
    let anchored = c.anchor_toolbar-anchored in
    let mode : OfMode (analog_of p) p.psp anchored.result =
    rw anchored.ensures (anchor_mode (analog_of p) p.psp c.layout_in-layout.result (laid (goal.at.anchor_toolbar-requires c).After-layout_in-layout) _ _ _ _ _) in
    let counts : Few anchored.result = few (analog_of p) p.psp anchored.result mode in
    search rules
