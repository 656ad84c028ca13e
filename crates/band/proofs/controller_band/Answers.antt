-- The counts are read off the definitions of the toolbar and of the game.
use Rattle.layout.specs.Layout.{Few}
use Rattle.search.specs.Search.{place_game_in_aspect_of}
use Rattle.toolbar.specs.Toolbar.{anchor_toolbar_of}
use Rattle.band.proofs.controller_band.Goals as goal

pub with_inputs-requires : goal.with_inputs-requires
unfolding anchor_toolbar_of
with_inputs-requires c = rw c.anchor_toolbar-anchored.ensures c.band_controls-controls.ensures.1

pub returns-clause-few : goal.returns-clause-few
unfolding place_game_in_aspect_of
returns-clause-few c = rw c.place_game_in_aspect.ensures (c.with_inputs.ensures.1, c.with_inputs.ensures.2)
