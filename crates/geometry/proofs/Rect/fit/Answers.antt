-- `fit`: the definition, with what `min` and `new` give.
use Rattle.geometry.specs.Rect.{fit_of}
use Rattle.geometry.proofs.Rect.fit.Goals as goal

pub returns : goal.returns
unfolding fit_of
returns c = rw (← c.min-w.ensures, ← c.new.ensures)
