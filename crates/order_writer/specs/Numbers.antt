-- Settings as numbers, the marks as the bytes of their fields, rectangles four numbers each.
use Rattle.std.specs.Prelude.{List, ℕ, ◌+◌, ◌*◌, ◌/◌, Float, length, get_or}
use Rattle.std.specs.Float.{nan}
use Rattle.prelude.specs.Lists.{tabulate}
use Rattle.geometry.specs.declared.Rect.{Rect}
use Rattle.geometry.specs.Rect.{new_of, rect_array}
use Rattle.geometry.specs.declared.Offset.{Offset}
use Rattle.layout.specs.declared.Cutouts.{Cutouts}
use Rattle.settings.specs.declared.Settings.{Settings}
use Rattle.settings.specs.Settings.{default_of, absent_of, with_fit, with_place, with_elements, with_screen, with_preset, with_cutouts}
use Rattle.settings.specs.Settings.{with_mode_byte, fit_mark_of}

-- four numbers from place i on
abbrev pub rect_from : List Float → ℕ → Rect
rect_from numbers i = new_of (get_or numbers i nan) (get_or numbers (i + 1) nan) (get_or numbers (i + 2) nan) (get_or numbers (i + 3) nan)

-- four numbers a rectangle; what is no whole one at the end is passed over
unfoldable pub rects_in : List Float → List Rect
rects_in numbers = tabulate (λ i. rect_from numbers (4 * i)) (length numbers / 4)

-- in an array of `size`
abbrev pub rects_from : ℕ → List Float → List Rect
rects_from size numbers = rect_array size (length numbers / 4) (rects_in numbers)

-- numbers: screen w, h, the picture, scale, the offset; mode and fit as the bytes of tags 3 and 4
unfoldable pub settings_from : List Float → ℕ → ℕ → List Float → List Float → Settings
settings_from numbers mode fit cutouts saved =
    let offset : Offset = record { x = get_or numbers 7 nan; y = get_or numbers 8 nan } in
    let placed = with_place (with_fit (with_mode_byte default_of mode) (fit_mark_of fit)) (get_or numbers 6 nan) offset in
    let holes : Cutouts = record { at = rects_from 16 cutouts; count = length cutouts / 4 } in
    with_cutouts
    (with_preset
    (with_screen absent_of (get_or numbers 0 nan) (get_or numbers 1 nan) (rect_from numbers 2))
    (with_elements placed (rects_from 32 saved) (length saved / 4)))
    holes
