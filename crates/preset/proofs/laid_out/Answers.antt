-- Each step's layout has the labels of its mode, and so few counts; with every call replaced by its definition this is `laid_out_of`.
use mathlib.Core.Path.{◌≡◌}
use Prim.Native.Nat.{◌≤◌}
use lib.Dec.{T}
use lib.Ieee.{le}
use lib.ListN.{length}
use Rattle.float.specs.Float.{k0}
use Rattle.float.proofs.Ends.{zero_le_max}
use Rattle.layout.specs.declared.Layout.{Layout}
use Rattle.layout.specs.Actions.{action_elements_of}
use Rattle.layout.specs.Labels.{OfMode}
use Rattle.layout.specs.Layout.{Few}
use Rattle.layout.proofs.LabelLaws.{few, few_faces}
use Rattle.search.specs.Search.{place_game_in_aspect_of}
use Rattle.settings.specs.declared.Preset.{Preset}
use Rattle.toolbar.specs.Toolbar.{anchor_toolbar_of}
use Rattle.cutouts.proofs.CutoutLabels.{avoid_mode}
use Rattle.arrangement_choice.specs.Choice.{first_of, area_of}
use Rattle.arrangement_choice.proofs.Keys.{first_area}
use Rattle.arrangement_choice.proofs.ChoiceLabels.{arrangement_mode}
use Rattle.preset.proofs.PresetLabels.{saved_mode}
use Rattle.preset.specs.Preset.{settled_of, analog_of, laid_out_of}
use borrow.Author.Rules.{rules}
use Rattle.preset.proofs.laid_out.Goals as goal
use Rattle.preset.proofs.laid_out.Goals.{After-with_saved-restored, After-avoid_cutouts-clear, After-anchor_toolbar-elements, After-area-area}

-- ---- each layout has the labels of its mode
abbrev Mode : Preset → Layout → Type 0
Mode p l = OfMode (analog_of p) p.psp l

restored : (c : After-with_saved-restored) → Mode c.args.p c.with_saved-restored.result
restored c =
    let p = c.args.p in
    let arranged : Mode p c.arrangement-layout.result = rw c.arrangement-layout.ensures (arrangement_mode _ _ _ _ _ _ _ _ _) in
    rw c.with_saved-restored.ensures (saved_mode (analog_of p) p.psp _ arranged _ _ _)

cleared : (c : After-avoid_cutouts-clear) → Mode c.args.p c.avoid_cutouts-clear.result
cleared c = let p = c.args.p in rw c.avoid_cutouts-clear.ensures (avoid_mode (analog_of p) p.psp _ (restored c.before) _ _ _)

anchored : (c : After-anchor_toolbar-elements) → Mode c.args.p c.anchor_toolbar-elements.result
unfolding anchor_toolbar_of
anchored c = rw c.anchor_toolbar-elements.ensures (cleared c.before.before)

-- ---- what the calls require
pub with_saved-restored-requires : goal.with_saved-restored-requires
with_saved-restored-requires c =
    let p = c.args.p in
    let arranged : Mode p c.arrangement-layout.result = rw c.arrangement-layout.ensures (arrangement_mode _ _ _ _ _ _ _ _ _) in
    (few (analog_of p) p.psp c.arrangement-layout.result arranged, c.requires.2, c.requires.3)

pub avoid_cutouts-clear-requires : goal.avoid_cutouts-clear-requires
avoid_cutouts-clear-requires c =
    let mode = restored (goal.at.avoid_cutouts-clear-requires c).After-with_saved-restored in
    let p = c.args.p in
    let l = c.with_saved-restored.result in
    let counts : Few l = few (analog_of p) p.psp l mode in
    let faces : length (action_elements_of l) ≤ 4 = few_faces (analog_of p) p.psp l mode in
    let holes = c.requires.1 in
    search rules

pub anchor_toolbar-elements-requires : goal.anchor_toolbar-elements-requires
anchor_toolbar-elements-requires c =
    let p = c.args.p in
    let l = c.avoid_cutouts-clear.result in
    let counts : Few l = few (analog_of p) p.psp l (cleared (goal.at.anchor_toolbar-elements-requires c).After-avoid_cutouts-clear) in
    let top : T (le k0 c.reusable_top.result) = rw c.reusable_top.ensures (zero_le_max _) in
    let holes = c.requires.1 in
    search rules

pub place_game_in_aspect-placed-requires : goal.place_game_in_aspect-placed-requires
place_game_in_aspect-placed-requires c =
    let p = c.args.p in
    few (analog_of p) p.psp c.anchor_toolbar-elements.result (anchored (goal.at.place_game_in_aspect-placed-requires c).After-anchor_toolbar-elements)

pub fit_landscape_controls-requires : goal.fit_landscape_controls-requires
unfolding place_game_in_aspect_of
fit_landscape_controls-requires c =
    let mode : Mode c.args.p c.place_game_in_aspect-placed.result = rw c.place_game_in_aspect-placed.ensures (anchored (goal.at.fit_landscape_controls-requires c).After-anchor_toolbar-elements) in
    let p = c.args.p in
    few (analog_of p) p.psp c.place_game_in_aspect-placed.result mode

-- ---- the area over every layout is that over the layout at first
area : (c : After-area-area) → let a = c.args in c.area-area.result ≡ area_of (first_of a.p.analog a.p.psp c.is_maximum-maximum.result a.w a.h a.cutouts.now a.picture) c.is_maximum-maximum.result a.picture
area c = let a = c.args in first_area a.w a.h a.cutouts.now a.picture a.p.analog a.p.psp c.is_maximum-maximum.result c.area-area.ensures

pub returns-then-row_allowed : goal.returns-then-row_allowed
unfolding laid_out_of settled_of
returns-then-row_allowed c = let e = area (goal.at.returns-then-row_allowed c).After-area-area in search rules

pub returns-else-row_allowed : goal.returns-else-row_allowed
unfolding laid_out_of settled_of
returns-else-row_allowed c = let e = area (goal.at.returns-else-row_allowed c).After-area-area in search rules
