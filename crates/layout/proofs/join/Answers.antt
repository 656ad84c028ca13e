-- `join`: the definition, with what `min`, `max` and `new` give.
use Rattle.layout.specs.Actions.{join_of}
use Rattle.layout.proofs.join.Goals as goal

pub returns : goal.returns
unfolding join_of
returns c = rw (← c.min-x.ensures, ← c.min-y.ensures, ← c.max.ensures, ← c.max-2.ensures) c.new.ensures
