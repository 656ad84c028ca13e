-- The upper limit of the top is at least the lower one.
use Rattle.float.specs.Float.{k0}
use Rattle.float.proofs.Ends.{le_trans, zero_le_max, neg_le_zero}
use Rattle.toolbar.proofs.anchor_toolbar.Goals as goal

pub clamp-top-requires : goal.clamp-top-requires
clamp-top-requires c = rw c.max-bottom.ensures (le_trans _ k0 _ (neg_le_zero c.args.reusable_top c.requires.2) (zero_le_max _))
