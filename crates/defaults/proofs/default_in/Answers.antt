-- The three steps, one after the other; the counts by `default_formed`.
use Rattle.layout.specs.Labels.{standard_labels}
use Rattle.layout.proofs.LabelLaws.{with_counts}
use Rattle.arranged.proofs.ControlLaws.{arranged_finished}
use Rattle.defaults.specs.Defaults.{default_in_of}
use Rattle.defaults.proofs.DefaultLabels.{default_formed}
use Rattle.defaults.proofs.default_in.Goals as goal

pub returns : goal.returns
unfolding default_in_of
returns c =
    let args = c.args in
    let cutouts = args.cutouts.now in
    with_counts standard_labels 0 (default_in_of args.w args.h cutouts args.picture) (default_formed args.w args.h cutouts args.picture)
    (rw (
      arranged_finished,
      ← c.docked.ensures.0,
      ← c.finished_in-rails.ensures,
      ← c.try_dock-compact.ensures,
      ← c.try_side-sided.ensures,
    ) c.try_band.ensures)
