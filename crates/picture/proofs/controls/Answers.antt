-- The first of the three that fits.
use Rattle.std.proofs.Common.{rules, tests}
use mathlib.Core.Bool.{Bool}
use mathlib.Core.Path.{◌∙◌}
use Rattle.fits.specs.Fits.{fits_of}
use Rattle.layout.specs.declared.Layout.{Layout}
use Rattle.layout.specs.Layout.{Few}
use Rattle.picture.specs.Picture.{kept, vertical_of, controls_of}
use Rattle.picture.proofs.Candidates.{first_of_three, chosen}
use Rattle.picture.proofs.controls.Goals as goal

pub returns : goal.returns
unfolding controls_of
returns c =
    let s = c.args in
    let fit : Layout → Bool = λ l. fits_of l s.w s.h s.game s.holes.now in
    let base = c.base-base.result in
    let below = chosen Few c.fitting.result (kept fit (vertical_of base c.new-below_left.result c.new-below_right.result s.analog)) c.or_else.result c.fitting.ensures.1 (λ p. search (rules, tests)) c.or_else.ensures in
    let all = chosen Few c.or_else.result (kept fit (vertical_of base c.new-left.result c.new-right.result s.analog)) c.or_else-2.result below.1 (λ p. search (rules, tests)) c.or_else-2.ensures in (
      all.0
          ∙ rw (below.0, c.fitting.ensures.0, c.horizontal.ensures.0, c.new-below_left.ensures, c.new-below_right.ensures, c.new-left.ensures, c.new-right.ensures)
          (rw (c.new-band.ensures, c.clamp-bottom.ensures, c.clamp.ensures, c.clamp-right_x.ensures, c.base-base.ensures.0) (first_of_three _ _ _ _)),
      all.1,
    )
