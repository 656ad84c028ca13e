-- `contains`: the tests of the definition in its order, up to the first that fails.
use Rattle.geometry.specs.Rect.{contains_of}
use Rattle.geometry.proofs.Rect.contains.Goals as goal

pub returns-then-x-self-2 : goal.returns-then-x-self-2
unfolding contains_of
returns-then-x-self-2 c = rw (c.if-x-self.true, c.if-y-self.true, c.if-x-self-2.true)

pub returns-else-x-self-2 : goal.returns-else-x-self-2
unfolding contains_of
returns-else-x-self-2 c = rw (c.if-x-self.true, c.if-y-self.true, c.if-x-self-2.false)

pub returns-else-y-self : goal.returns-else-y-self
unfolding contains_of
returns-else-y-self c = rw (c.if-x-self.true, c.if-y-self.false)

pub returns-else-x-self : goal.returns-else-x-self
unfolding contains_of
returns-else-x-self c = rw c.if-x-self.false
