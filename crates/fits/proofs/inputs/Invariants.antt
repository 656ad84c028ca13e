-- `inputs`: the d-pad and the controls so far, then all controls and the sticks so far.
use Rattle.std.proofs.Common.{◌≡◌, length, take, ◌+◌}
use mathlib.Core.Bool.{false}
use mathlib.Core.List.{◌∷◌, ◌++◌, map}
use Rattle.layout.specs.Layout.{control_list, stick_list}
use Rattle.fits.specs.Fits.{input, from_control, from_stick}
use Rattle.fits.proofs.inputs.Given as goal

abbrev pub invariant-loop-c : goal.invariant-loop-c
invariant-loop-c l = (l.out.items ≡ input l.fn.l.dpad false ∷ map from_control (take l.c-index (control_list l.fn.l))) × (length l.out.items ≡ l.c-index + 1)

abbrev pub invariant-loop-r : goal.invariant-loop-r
invariant-loop-r l = (l.out.items ≡ l.initial.out.items ++ map from_stick (take l.r-index (stick_list l.fn.l))) × (length l.out.items ≡ length l.initial.out.items + l.r-index)
