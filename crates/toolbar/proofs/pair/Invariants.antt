-- What is left of the pass gives the whole answer.
use Rattle.std.proofs.Common.{◌≡◌, ◌+◌, ◌-◌, length}
use Rattle.toolbar.specs.Toolbar.{pass, pair_of}
use Rattle.toolbar.proofs.pair.Given as goal

abbrev pub invariant-loop : goal.invariant-loop
invariant-loop l = pass l.left l.w l.h l.obstacles (length l.obstacles + 1 - l.counter) l.bar ≡ pair_of l.fn.bar l.left l.w l.h l.obstacles
