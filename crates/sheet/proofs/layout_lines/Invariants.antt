-- After the game's and the d-pad's come the lines of the controls passed; after these and the toolbar's, those of the sticks passed.
use Rattle.std.proofs.Common.{◌≡◌, ◌+◌, length, take}
use mathlib.Core.List.{◌∷◌, ◌++◌, map}
use Rattle.layout.specs.Layout.{control_list, stick_list}
use Rattle.lines.specs.Line.{line_of, line_in}
use Rattle.sheet.specs.Sheet.{game_name, dpad_name, control_line, toolbar_lines, stick_lines}
use Rattle.sheet.proofs.layout_lines.Given as goal

abbrev pub invariant-loop-c : goal.invariant-loop-c
invariant-loop-c l =
    record {
      count : length l.lines.items ≡ l.c-index + 2;
      all : l.c-items ≡ control_list l.fn.l;
      lines : map line_in l.lines.items ≡ line_of game_name l.fn.l.game ∷ line_of dpad_name l.fn.l.dpad ∷ map control_line (take l.c-index l.c-items);
    }

abbrev pub invariant-loop-name : goal.invariant-loop-name
invariant-loop-name l =
    record {
      count : length l.lines.items ≡ length (control_list l.fn.l) + length l.yielded + 6;
      lines : map line_in l.lines.items ≡ line_of game_name l.fn.l.game ∷ line_of dpad_name l.fn.l.dpad ∷ (map control_line (control_list l.fn.l) ++ (toolbar_lines l.fn.l ++ stick_lines (take (length l.yielded) (stick_list l.fn.l))));
    }
