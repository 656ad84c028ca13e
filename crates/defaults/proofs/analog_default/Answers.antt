-- The full layout, scaled and finished (`full-anew`), or the band; the counts by `analog-formed`.
use Rattle.layout.specs.Labels.{analog_labels}
use Rattle.layout.proofs.LabelLaws.{with_counts}
use Rattle.defaults.specs.Defaults.{analog_default_of}
use Rattle.defaults.proofs.DefaultLabels.{analog_formed}
use Rattle.defaults.proofs.Anew.{full_anew}
use Rattle.defaults.proofs.analog_default.Goals as goal

pub returns : goal.returns
unfolding analog_default_of
returns c =
    let args = c.args in
    with_counts analog_labels 2 (analog_default_of args.w args.h) (analog_formed args.w args.h)
    (rw (
      ← c.max.ensures,
      ← c.max-2.ensures,
      ← full_anew,
      ← c.analog_controls.ensures.0,
      ← c.shrunk-layout.ensures.0,
      ← c.new-screen.ensures,
      ← c.finished.ensures.0,
    ) c.try_band.ensures)
