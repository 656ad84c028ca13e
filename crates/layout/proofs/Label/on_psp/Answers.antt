-- `on_psp`: the definition, with what `mask` gives.
use Rattle.layout.specs.Label.{on_psp_of}
use Rattle.layout.proofs.Label.on_psp.Goals as goal

pub returns : goal.returns
unfolding on_psp_of
returns c = rw (← c.mask.ensures)
