-- The film sheet of document 01, made from an order's bytes.
use Rattle.std.specs.Prelude.{List, ℕ}
use Rattle.prelude.specs.Answer.{Answer, accepted, refused}
use Rattle.settings.specs.declared.Settings.{Settings}
use Rattle.reader.specs.Order.{read_order_of}
use Rattle.preset.specs.Preset.{settings_layout_of}
use Rattle.sheet.specs.declared.Sheet.{Sheet}
use Rattle.sheet.specs.Sheet.{lines_of, sheet_text, refused_text, page_of}

-- the lines of the layout, or `REFUSED` and a number
abbrev pub answer_text : Answer Settings → List ℕ
answer_text (accepted s) = sheet_text (lines_of (settings_layout_of s))
answer_text (refused n) = refused_text n

unfoldable pub film_text_of : List ℕ → List ℕ
film_text_of order = answer_text (read_order_of order)

-- in 1,024 bytes, with zeros after its end, and its length
unfoldable pub film_sheet_of : List ℕ → Sheet
film_sheet_of order = page_of (film_text_of order)
