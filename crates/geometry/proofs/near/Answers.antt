-- `near`: the definition, with what `abs` gives.
use Rattle.geometry.specs.Rect.{near_of}
use Rattle.geometry.proofs.near.Goals as goal

pub returns : goal.returns
unfolding near_of
returns c = rw (← c.abs.ensures)
