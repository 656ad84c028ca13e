use Rattle.hypot.proofs.Ways.{LeadingDigits}
use Rattle.hypot.proofs.rounded.Given as goal

abbrev pub invariant-loop-c : goal.invariant-loop-c
invariant-loop-c l = LeadingDigits l.w l.f l.c l.u l.k

abbrev pub decreases-loop-c : goal.decreases-loop-c
decreases-loop-c l = l.c
