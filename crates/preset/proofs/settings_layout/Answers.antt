-- Accepted settings have few rectangles and a finite screen.
use lib.Ieee.{of_bits}
use borrow.Author.Rules.{rules}
use Rattle.preset.specs.Preset.{settings_layout_of}
use Rattle.settings.proofs.Accepted.{few_settings, finite_screen}
use Rattle.preset.proofs.settings_layout.Goals as goal

pub as_slice-requires : goal.as_slice-requires
as_slice-requires c = (few_settings c.args.s c.requires).1

pub layout_in-requires : goal.layout_in-requires
unfolding settings_layout_of of_bits
layout_in-requires c =
    let n = few_settings c.args.s c.requires in
    let f = finite_screen c.args.s c.requires in
    search rules

pub returns : goal.returns
unfolding settings_layout_of
returns c = rw c.as_slice.ensures at c.layout_in.ensures
