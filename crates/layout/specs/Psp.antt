-- `psp_inputs` of input.rs: the controls that a psp has, and one stick at most.
use Rattle.std.specs.Prelude.{Bool, cond, ℕ, min, length}
use Rattle.prelude.specs.Lists.{retain, compact}
use Rattle.layout.specs.declared.Control.{Control}
use Rattle.layout.specs.declared.Layout.{Layout}
use Rattle.layout.specs.Label.{on_psp_of}
use Rattle.layout.specs.Layout.{control_list, with_controller}

unfoldable pub at_most_one_of : ℕ → ℕ
at_most_one_of n = min n 1

abbrev pub on_psp : Control → Bool
on_psp c = on_psp_of c.label

-- without the controls that a psp lacks, and with one stick at most
unfoldable pub psp_inputs_of : Layout → Layout
psp_inputs_of l =
    let controls = compact on_psp l.count l.controls in
    let count = length (retain on_psp (control_list l)) in
    with_controller l l.dpad controls count l.sticks (at_most_one_of l.stickcount)

-- a psp has some of the inputs only
abbrev pub with_inputs_of : Layout → Bool → Layout
with_inputs_of l psp = cond psp (psp_inputs_of l) l
