-- `psp_inputs`: the controls passed that a psp has stand in front, and are counted.
use Rattle.std.specs.Prelude.{◌≡◌, ◌≤◌, length, take}
use Rattle.prelude.specs.Lists.{retain, compact}
use Rattle.layout.specs.Psp.{on_psp}
use Rattle.layout.proofs.Layout.psp_inputs.Given as goal

abbrev pub invariant-loop-c : goal.invariant-loop-c
invariant-loop-c l =
    let cs = l.fn.self.controls in
    (l.count ≤ l.c-index) × (length l.controls ≡ 12) × (l.count ≡ length (retain on_psp (take l.c-index cs))) × (l.controls ≡ compact on_psp l.c-index cs)
