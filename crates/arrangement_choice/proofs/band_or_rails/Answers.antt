-- The rails are tried beside the band or the layout, of the same mode either way.
use Rattle.layout.specs.Labels.{OfMode}
use Rattle.band.proofs.BandLabels.{band_formed}
use Rattle.arrangement_choice.proofs.ChoiceCases.{found_case}
use Rattle.arrangement_choice.proofs.band_or_rails.Goals as goal

pub try_rails-requires : goal.try_rails-requires
try_rails-requires c =
    let a = c.args in
    let formed = found_case (OfMode a.analog a.psp) {l = a.layout} _ c.requires.1 (band_formed a.w a.h a.analog a.psp a.area) in
    let mode : OfMode a.analog a.psp c.unwrap_or-banded.result = rw (c.unwrap_or-banded.ensures, c.controller_band.ensures.is) formed in
    (c.requires.0, rw c.if-analog.true at mode)
