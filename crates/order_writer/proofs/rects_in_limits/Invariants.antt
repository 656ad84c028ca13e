use lib.ListN.{length}
use Rattle.std.specs.List.{list_all}
use Rattle.prelude.proofs.Loops.{Rest}
use Rattle.settings.specs.Settings.{least, rect_in_limits_of}
use Rattle.order_writer.proofs.rects_in_limits.Given as goal

abbrev pub invariant-loop-i : goal.invariant-loop-i
invariant-loop-i g l = let list = g.R.Row.list l.rects in Rest (list_all (rect_in_limits_of least)) list (length list) (list_all (rect_in_limits_of least) list) l.i
