-- The rectangle, if it is usable, else four NaN.
use Rattle.order_writer.specs.OrderBytes.{writable_of}
use Rattle.order_writer.proofs.writable.Goals as goal

pub returns-then-usable : goal.returns-then-usable
unfolding writable_of
returns-then-usable c = rw (← c.usable.ensures, c.if-usable.true)

pub returns : goal.returns
unfolding writable_of
returns c = rw (← c.usable.ensures, ← c.from_bits-n.ensures, ← c.new.ensures, c.if-usable.false)
