-- `inside`: the tests of the definition in its order, up to the first that fails.
use Rattle.geometry.specs.Rect.{inside_of}
use Rattle.geometry.proofs.Rect.inside.Goals as goal

pub returns-then-self-w : goal.returns-then-self-w
unfolding inside_of
returns-then-self-w c = rw (c.if-self.true, c.if-self-2.true, c.if-self-w.true)

pub returns-else-self-w : goal.returns-else-self-w
unfolding inside_of
returns-else-self-w c = rw (c.if-self.true, c.if-self-2.true, c.if-self-w.false)

pub returns-else-self-2 : goal.returns-else-self-2
unfolding inside_of
returns-else-self-2 c = rw (c.if-self.true, c.if-self-2.false)

pub returns-else-self : goal.returns-else-self
unfolding inside_of
returns-else-self c = rw c.if-self.false
