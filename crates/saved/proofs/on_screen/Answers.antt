-- The ends of each clamp are in order, by `side_ends` and `corner_ends`.
use Rattle.saved.proofs.SavedLaws.{usable_finite}
use Rattle.saved.proofs.Ends.{side_ends, corner_ends}
use Rattle.saved.proofs.on_screen.Goals as goal

pub clamp-width-requires : goal.clamp-width-requires
clamp-width-requires c = rw c.min.ensures (side_ends _ _ c.requires.1)

pub clamp-height-requires : goal.clamp-height-requires
clamp-height-requires c = rw c.min-2.ensures (side_ends _ _ c.requires.2)

pub clamp-requires : goal.clamp-requires
clamp-requires c = rw (c.clamp-width.ensures, c.min.ensures) (corner_ends _ _ c.requires.1 _ (usable_finite c.args.r c.requires.0).2)

pub clamp-requires-2 : goal.clamp-requires-2
clamp-requires-2 c = rw (c.clamp-height.ensures, c.min-2.ensures) (corner_ends _ _ c.requires.2 _ (usable_finite c.args.r c.requires.0).3)
