-- The picture is the whole screen, of 1 by 1 at least.
use Rattle.preset.proofs.layout_with_cutouts.Goals as goal

pub returns : goal.returns
returns c = rw (← c.max.ensures, ← c.max-2.ensures, ← c.new-picture.ensures) c.layout_in.ensures
