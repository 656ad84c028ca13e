-- The cutouts so far, and behind them the elements so far.
use Rattle.std.proofs.Common.{◌≡◌, ◌++◌, ◌+◌, length, take}
use Rattle.arrayvec.specs.ArrayVec.{array_vec_len}
use Rattle.toolbar.proofs.with_controls.Given as goal

abbrev pub invariant-loop-r : goal.invariant-loop-r
invariant-loop-r l = (array_vec_len l.obstacles ≡ l.r-index) × (l.obstacles.items ≡ take l.r-index l.cutouts)

abbrev pub invariant-loop-r-2 : goal.invariant-loop-r-2
invariant-loop-r-2 l = (array_vec_len l.obstacles ≡ length l.cutouts + l.r-index) × (l.obstacles.items ≡ l.cutouts ++ take l.r-index l.r-items)
