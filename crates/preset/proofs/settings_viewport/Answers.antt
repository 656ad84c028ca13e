-- Accepted settings have few rectangles and a finite screen; the reusable top is given.
use borrow.Author.Rules.{rules}
use Rattle.preset.specs.Preset.{settings_viewport_of}
use Rattle.settings.proofs.Accepted.{few_settings, finite_screen}
use Rattle.preset.proofs.settings_viewport.Goals as goal

pub as_slice-requires : goal.as_slice-requires
as_slice-requires c = (few_settings c.args.s c.requires.0).1

pub viewport_layout-requires : goal.viewport_layout-requires
unfolding settings_viewport_of
viewport_layout-requires c =
    let n = few_settings c.args.s c.requires.0 in
    let f = finite_screen c.args.s c.requires.0 in
    search rules

pub returns : goal.returns
unfolding settings_viewport_of
returns c = rw c.as_slice.ensures at c.viewport_layout.ensures
