-- The text of the lines that are left is still to be put.
use Rattle.std.proofs.Common.{◌≡◌, drop}
use mathlib.Core.List.{map}
use Rattle.lines.specs.Line.{line_in, put_of}
use Rattle.sheet.specs.Sheet.{lines_text}
use Rattle.sheet.proofs.put_lines.Given as goal

abbrev pub invariant-loop-line : goal.invariant-loop-line
invariant-loop-line l = put_of l.out l.next (lines_text (map line_in (drop l.line-index l.lines))) ≡ put_of l.initial.out l.at (lines_text (map line_in l.lines))
