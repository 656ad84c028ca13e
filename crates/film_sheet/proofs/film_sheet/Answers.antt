-- `film_sheet` is the sheet of what reading the order gives: an accepted order's numbers are in range.
use mathlib.Core.Path.{sym}
use native.Mathlib.Omega.{arith}
use Rattle.reader.proofs.Accepted.{accepted_order, refused_order}
use Rattle.sheet.specs.Sheet.{layout_sheet_of, refused_sheet_of}
use Rattle.preset.proofs.PresetLabels.{settings_few}
use Rattle.film_sheet.specs.Film.{film_text_of, film_sheet_of}
use Rattle.film_sheet.proofs.FilmLaws.{order_bounded}
use Rattle.film_sheet.proofs.film_sheet.Goals as goal

pub settings_layout-requires : goal.settings_layout-requires
settings_layout-requires c = accepted_order _ (sym c.in-Ok.ensures)

pub layout_sheet-requires : goal.layout_sheet-requires
layout_sheet-requires c =
    let b = order_bounded _ (sym c.in-Ok.ensures) in
    rw c.settings_layout.ensures (settings_few _, b.0, b.1)

pub returns-in-Ok : goal.returns-in-Ok
unfolding film_sheet_of film_text_of layout_sheet_of
returns-in-Ok c = rw (← c.in-Ok.ensures, ← c.settings_layout.ensures) c.layout_sheet.ensures

pub refused_sheet-requires : goal.refused_sheet-requires
refused_sheet-requires c = let b = refused_order _ (sym c.in-Err.ensures) in omega (arith, c.from.ensures)

pub returns-in-Err : goal.returns-in-Err
unfolding film_sheet_of film_text_of refused_sheet_of
returns-in-Err c = rw (← c.in-Err.ensures, ← c.from.ensures) c.refused_sheet.ensures
