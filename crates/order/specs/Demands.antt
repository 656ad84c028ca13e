-- Demand 3, of the bytes of an order and those that are written for it. The words in quotation marks are document 01's.
use Rattle.std.specs.Prelude.{◌≡◌, List, ℕ}
use Rattle.prelude.specs.Answer.{Answer, accepted}
use Rattle.layout.specs.Layout.{elements_of}
use Rattle.search.specs.Widest.{centred_width, Widest}
use Rattle.search.specs.Search.{aspect_of}
use Rattle.settings.specs.declared.Settings.{Settings}
use Rattle.reader.specs.Order.{read_order_of}
use Rattle.written_layout.specs.Written.{written_game, written_elements}
use Rattle.preset.specs.Demand.{KeptClear, shape_width, shape_height}
use Rattle.preset.specs.Preset.{settings_layout_of}

-- Where an order gives the settings s, of KeepClear without overlap at size factor 1, and its layout is written: game and elements are finite, no rival is wider than the game by more than 1/16, and the game meets no element by more.
-- "The game and the elements are those of the layout's tags 1 and 2, toolbar included", "the area is the order's tag 2 rectangle".
abbrev pub WidestWritten : List ℕ → Answer ℕ → List ℕ → Type 0
WidestWritten order answer out =
    (s : Settings) (n : ℕ) → read_order_of order ≡ accepted s → answer ≡ accepted n → KeptClear s.preset →
    let psp = s.preset.psp in
    Widest (shape_width psp) (shape_height psp) (written_elements out) s.picture (centred_width (elements_of (settings_layout_of s)) s.picture (aspect_of psp)) (written_game out)
