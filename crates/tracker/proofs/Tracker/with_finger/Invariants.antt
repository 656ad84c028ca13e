-- Up to k the array is as it was, and past it has the finger there.
use Rattle.std.proofs.Common.{◌≡◌, ◌<◌, ◌≤◌}
use lib.ListN.{length, set}
use Rattle.tracker.proofs.Tracker.with_finger.Given as goal

abbrev pub invariant-loop-k : goal.invariant-loop-k
invariant-loop-k l =
    record {
      size : length l.place-items ≡ 10;
      before : l.k ≤ l.i → l.place-items ≡ l.initial.place-items;
      past : l.i < l.k → l.place-items ≡ set l.initial.place-items l.i l.f;
    }
