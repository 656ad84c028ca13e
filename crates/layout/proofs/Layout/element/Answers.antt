-- `element`: each return is the definition at its kind of index.
use native.Mathlib.Omega.{arith}
use mathlib.Core.Path.{sym}
use lib.Dec.{lit<}
use borrow.Author.Rules.{scaled_Fits}
use Rattle.layout.proofs.ElementLaws.{element_dpad, element_control, element_pause, element_playback, element_speed, element_mute, element_stick, stick_index, stick_below}
use Rattle.layout.proofs.Layout.element.Goals as goal

pub returns-then-index-eq0 : goal.returns-then-index-eq0
returns-then-index-eq0 c = sym (element_dpad _ _ (omega arith))

pub returns-then-index-n : goal.returns-then-index-n
returns-then-index-n c = sym (element_control _ _ _ (omega arith) (omega arith))

pub returns-then-index-n-2 : goal.returns-then-index-n-2
returns-then-index-n-2 c = sym (element_pause _ _ (omega arith))

pub returns-then-index-n-3 : goal.returns-then-index-n-3
returns-then-index-n-3 c = sym (element_playback _ _ (omega arith))

pub returns-then-index-n-4 : goal.returns-then-index-n-4
returns-then-index-n-4 c = sym (element_speed _ _ (omega arith))

pub returns-then-index-n-5 : goal.returns-then-index-n-5
returns-then-index-n-5 c = sym (element_mute _ _ (omega arith))

pub bounds-self-index-2 : goal.bounds-self-index-2
bounds-self-index-2 c = stick_below c.args.self c.args.index c.requires.0 c.requires.1

pub offset_bounds-self-index-2 : goal.offset_bounds-self-index-2
offset_bounds-self-index-2 c = scaled_Fits _ 2 16 (bounds-self-index-2 c) (lit< tt)

pub returns : goal.returns
returns c = sym (element_stick _ _ _ (stick_index _ _ (omega arith)))
