-- The widest picture, as `order::layout` has it.
use Rattle.thumb_layout.proofs.tl_layout.Goals as goal

pub returns-clause-widest : goal.returns-clause-widest
returns-clause-widest c = let l = c.layout.ensures in rw l.answer at l.widest
