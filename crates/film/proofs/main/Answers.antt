-- The text that is written lies within the sheet (`film_fits`).
use Rattle.std.proofs.Common.{ℕ, List, ◌≤◌, arith}
use Rattle.film_sheet.specs.Film.{film_sheet_of}
use Rattle.film_sheet.proofs.FilmLaws.{film_fits}
use Rattle.film.proofs.main.Goals as goal

small : (order : List ℕ) → (film_sheet_of order).len ≤ 1024
unfolding film_sheet_of
small order = omega (arith, film_fits order)

pub as_slice-requires : goal.as_slice-requires
as_slice-requires c = rw c.film_sheet-sheet.ensures (small _)
