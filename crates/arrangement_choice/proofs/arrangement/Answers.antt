-- The layout at first is of its mode.
use Rattle.arrangement_choice.proofs.ChoiceLabels.{first_mode}
use Rattle.arrangement_choice.proofs.arrangement.Goals as goal

pub band_or_rails-requires : goal.band_or_rails-requires
band_or_rails-requires c = (c.requires.0, rw c.first-layout.ensures (first_mode _ _ _ _ _ _ _))
