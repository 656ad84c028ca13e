-- Each field has the numbers that were lent; the lists are those of absent fields.
use Rattle.prelude.specs.Lists.{tabulate}
use Rattle.settings.specs.Settings.{default_of, absent_of}
use Rattle.order_writer.specs.Numbers.{rects_in, settings_from}
use Rattle.order_writer.proofs.settings_from.Goals as goal

pub returns : goal.returns
unfolding settings_from absent_of default_of rects_in tabulate
returns c = rw (c.rect_from.ensures, c.fit_mark-preset.ensures, c.with_mode_byte-preset.ensures, c.default.ensures)
