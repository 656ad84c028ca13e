-- The film sheet of document 01: a layout as lines, and lines as text.
use mathlib.Core.List.{List, [], ◌∷◌, ◌++◌, map, zip_with}
use Rattle.std.specs.Prelude.{ℕ, ◌-◌, length, replicate}
use Rattle.std.specs.List.{flat_map}
use Rattle.geometry.specs.declared.Rect.{Rect}
use Rattle.layout.specs.declared.Control.{Control}
use Rattle.layout.specs.declared.Layout.{Layout}
use Rattle.layout.specs.Label.{name_of}
use Rattle.layout.specs.Layout.{control_list, stick_list, elements_of}
use Rattle.lines.specs.Line.{Line, line_of, line_text, head_text}
use Rattle.sheet.specs.declared.Sheet.{Sheet}

-- ---- lines

abbrev pub control_line : Control → Line
control_line c = line_of (name_of c.label) c.bounds

abbrev pub game_name : List ℕ
game_name = 71 ∷ 65 ∷ 77 ∷ 69 ∷ []  -- GAME

abbrev pub dpad_name : List ℕ
dpad_name = 68 ∷ 80 ∷ 65 ∷ 68 ∷ []  -- DPAD

abbrev pub pause_name : List ℕ
pause_name = 80 ∷ 65 ∷ 85 ∷ 83 ∷ 69 ∷ []  -- PAUSE

abbrev pub play_name : List ℕ
play_name = 80 ∷ 76 ∷ 65 ∷ 89 ∷ []  -- PLAY

abbrev pub speed_name : List ℕ
speed_name = 83 ∷ 80 ∷ 69 ∷ 69 ∷ 68 ∷ []  -- SPEED

abbrev pub mute_name : List ℕ
mute_name = 77 ∷ 85 ∷ 84 ∷ 69 ∷ []  -- MUTE

abbrev pub left_name : List ℕ
left_name = 76 ∷ 69 ∷ 70 ∷ 84 ∷ []  -- LEFT

abbrev pub right_name : List ℕ
right_name = 82 ∷ 73 ∷ 71 ∷ 72 ∷ 84 ∷ []  -- RIGHT

unfoldable pub toolbar_lines : Layout → List Line
toolbar_lines l = line_of pause_name l.pause ∷ line_of play_name l.playback ∷ line_of speed_name l.speed ∷ line_of mute_name l.mute ∷ []

-- the first stick is the left one, also where it is the only one
unfoldable pub stick_lines : List Rect → List Line
stick_lines sticks = zip_with line_of (left_name ∷ right_name ∷ []) sticks

-- the game and each element, in the order of their indices
unfoldable pub lines_of : Layout → List Line
lines_of l =
    line_of game_name l.game ∷ line_of dpad_name l.dpad ∷ (map control_line (control_list l) ++ (toolbar_lines l ++ stick_lines (stick_list l)))

-- what they are the lines of
abbrev pub line_rects : Layout → List Rect
line_rects l = l.game ∷ elements_of l

-- ---- text, in ASCII

abbrev pub lines_text : List Line → List ℕ
lines_text ls = flat_map line_text ls

abbrev pub film : List ℕ
film = 70 ∷ 73 ∷ 76 ∷ 77 ∷ 32 ∷ []  -- FILM and a blank

abbrev pub refusal : List ℕ
refusal = 82 ∷ 69 ∷ 70 ∷ 85 ∷ 83 ∷ 69 ∷ 68 ∷ 32 ∷ []  -- REFUSED and a blank

-- the header says how many lines follow it
unfoldable pub sheet_text : List Line → List ℕ
sheet_text ls = head_text film (length ls) ++ lines_text ls

unfoldable pub refused_text : ℕ → List ℕ
refused_text n = head_text refusal n

-- ---- the array of 1,024 bytes

abbrev pub zeros : ℕ → List ℕ
zeros n = replicate n 0

-- a text with zeros after its end
abbrev pub page_of : List ℕ → Sheet
page_of text = record { bytes = text ++ zeros (1024 - length text); len = length text }

unfoldable pub layout_sheet_of : Layout → Sheet
layout_sheet_of l = page_of (sheet_text (lines_of l))

unfoldable pub refused_sheet_of : ℕ → Sheet
refused_sheet_of n = page_of (refused_text n)
