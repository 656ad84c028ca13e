-- `overlaps`: the tests of the definition in its order, up to the first that fails.
use Rattle.geometry.specs.Rect.{overlaps_of}
use Rattle.geometry.proofs.Rect.overlaps.Goals as goal

-- past the tests of the left, the right and the upper edge
pub returns-then-self-other-3 : goal.returns-then-self-other-3
unfolding overlaps_of
returns-then-self-other-3 c = rw (c.if-self-other.true, c.if-self-other-2.true, c.if-self-other-3.true)

pub returns-else-self-other-3 : goal.returns-else-self-other-3
unfolding overlaps_of
returns-else-self-other-3 c = rw (c.if-self-other.true, c.if-self-other-2.true, c.if-self-other-3.false)

pub returns-else-self-other-2 : goal.returns-else-self-other-2
unfolding overlaps_of
returns-else-self-other-2 c = rw (c.if-self-other.true, c.if-self-other-2.false)

pub returns-else-self-other : goal.returns-else-self-other
unfolding overlaps_of
returns-else-self-other c = rw c.if-self-other.false
