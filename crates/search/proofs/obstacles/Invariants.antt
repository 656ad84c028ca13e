-- What is pushed, and behind it what the elements that are left give.
use Rattle.std.proofs.Common.{◌≡◌, ◌++◌, ◌≤◌, drop}
use Rattle.arrayvec.specs.ArrayVec.{array_vec_len}
use Rattle.search.specs.Search.{obstacles_of}
use Rattle.search.proofs.obstacles.Given as goal

abbrev pub invariant-loop-r : goal.invariant-loop-r
invariant-loop-r l = (array_vec_len l.out ≤ l.r-index) × (l.out.items ++ obstacles_of l.bounds (drop l.r-index l.elements) ≡ obstacles_of l.bounds l.elements)
