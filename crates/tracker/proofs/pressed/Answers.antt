-- `pressed`: what the calls return is what the call answers and leaves.
use Rattle.std.proofs.Common.{rules, ◌∙◌}
use Rattle.prelude.proofs.Loops.{sized}
use Rattle.tracker.specs.Tracker.{Press}
use Rattle.tracker.proofs.CallLaws.{answers, leaves}
use Rattle.tracker.proofs.pressed.Goals as goal

pub returns-clause-answer : goal.returns-clause-answer
returns-clause-answer c = c.changed.ensures.answer ∙ answers c.args.t (Press c.args.finger c.args.x c.args.y c.args.l) (search sized) c.called.result c.map-made.result c.called.ensures (search rules)

pub returns-clause-tracker : goal.returns-clause-tracker
returns-clause-tracker c = c.changed.ensures.tracker ∙ leaves c.args.t (Press c.args.finger c.args.x c.args.y c.args.l) (search sized) c.called.result c.map-made.result c.called.ensures (search rules)
