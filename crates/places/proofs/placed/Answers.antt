-- The first controls, as `move_all` leaves them, before the others.
use Rattle.std.proofs.Common.{rules}
use mathlib.Core.Path.{refl}
use Rattle.prelude.proofs.Loops.{map_first_parts}
use Rattle.places.specs.Places.{at_of, placed_of}
use Rattle.places.proofs.placed.Goals as goal

pub returns : goal.returns
unfolding placed_of
returns c = (rw (c.move_all.ensures (λ x. at_of c.args.places x.label) (λ x r p. search rules), map_first_parts), refl, refl)
