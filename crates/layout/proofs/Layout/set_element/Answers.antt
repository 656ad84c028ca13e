-- `set_element`: each return is the definition at its kind of index.
use native.Mathlib.Omega.{arith}
use mathlib.Core.Path.{sym}
use lib.Dec.{lit<}
use borrow.Author.Rules.{scaled_Fits}
use Rattle.layout.proofs.ElementLaws.{stick_index, stick_below}
use Rattle.layout.proofs.SetElementLaws.{set_dpad, set_control, set_pause, set_playback, set_speed, set_mute, set_stick}
use Rattle.layout.proofs.Layout.set_element.Goals as goal

pub returns-then-index-eq0 : goal.returns-then-index-eq0
returns-then-index-eq0 c = sym (set_dpad _ _ _ (omega arith))

pub returns-then-index-n : goal.returns-then-index-n
returns-then-index-n c = rw c.with_bounds.ensures (sym (set_control _ _ _ _ (omega arith) (omega arith)))

pub returns-then-index-n-2 : goal.returns-then-index-n-2
returns-then-index-n-2 c = sym (set_pause _ _ _ (omega arith))

pub returns-then-index-n-3 : goal.returns-then-index-n-3
returns-then-index-n-3 c = sym (set_playback _ _ _ (omega arith))

pub returns-then-index-n-4 : goal.returns-then-index-n-4
returns-then-index-n-4 c = sym (set_speed _ _ _ (omega arith))

pub returns-then-index-n-5 : goal.returns-then-index-n-5
returns-then-index-n-5 c = sym (set_mute _ _ _ (omega arith))

pub bounds-l-index-2 : goal.bounds-l-index-2
bounds-l-index-2 c = stick_below c.args.self c.args.index c.requires.0 c.requires.1

pub offset_bounds-l-index-2 : goal.offset_bounds-l-index-2
offset_bounds-l-index-2 c = scaled_Fits _ 2 16 (bounds-l-index-2 c) (lit< tt)

pub returns : goal.returns
returns c = sym (set_stick _ _ _ _ (stick_index _ _ (omega arith)))
