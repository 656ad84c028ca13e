-- The controls, as `move_all` leaves the first of them, before the others.
use mathlib.Core.Path.{refl}
use Rattle.std.proofs.Common.{rules}
use Rattle.prelude.proofs.Loops.{map_first_parts}
use Rattle.float.specs.Float.{◌⊖◌, k16}
use Rattle.landscape.specs.Landscape.{place_in_row_of, with_key_row_of}
use Rattle.landscape.proofs.with_key_row.Goals as goal

pub returns : goal.returns
unfolding with_key_row_of
returns c =
    let row = c.args.row in
    let dx = row.w ⊖ k16 ⊖ row.face ⊖ c.action_bounds-actions.result.x in
    let dy = row.face_y ⊖ c.action_bounds-actions.result.y in
    (rw (c.move_all.ensures (λ x. place_in_row_of row dx dy x.bounds x.label) (λ x r p. search rules), map_first_parts, c.new.ensures, c.row_sticks.ensures, c.action_bounds-actions.ensures), refl, refl)
