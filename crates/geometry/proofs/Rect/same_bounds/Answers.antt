-- `same_bounds`: x, y, w and h in turn, up to the first that is not near.
use Rattle.geometry.specs.Rect.{same_bounds_of}
use Rattle.geometry.proofs.Rect.same_bounds.Goals as goal

pub returns-then-near-3 : goal.returns-then-near-3
unfolding same_bounds_of
returns-then-near-3 c = rw (← c.near.ensures, ← c.near-then-near.ensures, ← c.near-then-near-2.ensures, ← c.near-then-near-3.ensures) (rw (c.if-near.true, c.if-near-2.true, c.if-near-3.true))

pub returns-else-near-3 : goal.returns-else-near-3
unfolding same_bounds_of
returns-else-near-3 c = rw (← c.near.ensures, ← c.near-then-near.ensures, ← c.near-then-near-2.ensures, c.if-near.true) (rw (c.if-near-2.true, c.if-near-3.false))

pub returns-else-near-2 : goal.returns-else-near-2
unfolding same_bounds_of
returns-else-near-2 c = rw (← c.near.ensures, ← c.near-then-near.ensures, c.if-near.true, c.if-near-2.false)

pub returns-else-near : goal.returns-else-near
unfolding same_bounds_of
returns-else-near c = rw (← c.near.ensures, c.if-near.false)
