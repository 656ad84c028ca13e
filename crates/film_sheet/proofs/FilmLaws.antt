-- The layout of an accepted order has its numbers in range, and the text of any order fits the sheet.
use mathlib.Core.Path.{◌≡◌, refl}
use mathlib.Core.List.{List}
use Prim.Native.Nat.{ℕ, ◌≤◌}
use native.Mathlib.Omega.{arith}
use lib.ListN.{length, length-append}
use Rattle.prelude.specs.Answer.{Answer, accepted, refused}
use Rattle.layout_ranges.specs.Bounded.{Bounded, BoundedGame}
use Rattle.settings.specs.declared.Settings.{Settings}
use Rattle.settings_ranges.proofs.SettingsRanges.{accepted_in_range}
use Rattle.reader.proofs.Accepted.{accepted_order, refused_order, order_f32}
use Rattle.reader.specs.Order.{read_order_of}
use Rattle.preset.specs.Preset.{settings_layout_of}
use Rattle.preset.proofs.PresetLabels.{settings_few}
use Rattle.preset.proofs.PresetRanges.{settings_bounded}
use Rattle.sheet.specs.Sheet.{refused_text}
use Rattle.sheet.proofs.SheetLaws.{refused_fits, sheet_fits}
use Rattle.film_sheet.specs.Film.{answer_text, film_text_of, film_sheet_of}
use Rattle.film_sheet.specs.Promises.{FilmFits}

-- what `layout_sheet` asks
pub order_bounded : (order : List ℕ) {s : Settings} → read_order_of order ≡ accepted s → Bounded (settings_layout_of s) × BoundedGame (settings_layout_of s).game
order_bounded order {s} e = settings_bounded s (accepted_in_range s (accepted_order order e) (order_f32 order e))

pub film_fits : FilmFits
unfolding film_text_of refused_text
film_fits order = go (read_order_of order) refl
  where
    go : (a : Answer Settings) → read_order_of order ≡ a → length (answer_text a) ≤ 788
    go (accepted s) e =
        let n = settings_few s in
        let b = order_bounded order e in
        sheet_fits (settings_layout_of s) n b.0 b.1
    go (refused n) e = let b = refused_order order e in omega (arith, refused_fits n (omega arith))

pub film_within : (order : List ℕ) → (film_sheet_of order).len ≤ length (film_sheet_of order).bytes
unfolding film_sheet_of
film_within order = rw (length-append (film_text_of order) _) (omega arith)
