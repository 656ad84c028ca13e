-- The inputs of a psp, of `analog_default`; the counts by `psp-formed`.
use Rattle.layout.specs.Labels.{psp_labels}
use Rattle.layout.proofs.LabelLaws.{with_counts}
use Rattle.defaults.specs.Defaults.{psp_of}
use Rattle.defaults.proofs.DefaultLabels.{psp_formed}
use Rattle.defaults.proofs.psp.Goals as goal

pub returns : goal.returns
unfolding psp_of
returns c =
    let args = c.args in
    with_counts psp_labels 1 (psp_of args.w args.h) (psp_formed args.w args.h) (rw (← c.analog_default.ensures.0) c.psp_inputs.ensures)
