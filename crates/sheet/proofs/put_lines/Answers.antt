-- `put_lines` puts one line after the other: there is room for the next since there is for those left.
use mathlib.Core.Path.{sym, ◌∙◌}
use mathlib.Core.List.{[]}
use native.Mathlib.Numerals.{add-one}
use native.Mathlib.Omega.{arith}
use lib.IntN.{pos}
use lib.ListN.{length-append, drop_of_length-le}
use lib.Seq.{drop-cons}
use Rattle.lines.specs.declared.SheetLine.{SheetLine}
use Rattle.lines.specs.Line.{put_of}
use Rattle.lines.proofs.Puts.{none, onward, put_ends}
use Rattle.sheet.proofs.put_lines.Goals as goal

-- what a list of lines gives past its end
abbrev any_line : SheetLine
any_line = record { name = record { ref_ptr = (0, 0); now = [] }; x = pos 0; y = pos 0; w = pos 0; h = pos 0 }

pub put_line-next-requires : goal.put_line-next-requires
unfolding put_of
put_line-next-requires c =
    let e = rw (drop-cons _ c.loop-line.line-index any_line c.loop-line-test.true) at c.loop-line.invariant in
    omega (arith, c.loop-line.auto.out, simp length-append at (put_ends _ _ _ e))

pub loop-line-preserved : goal.loop-line-preserved
loop-line-preserved c =
    let e = rw (drop-cons _ c.loop-line.line-index any_line c.loop-line-test.true) at c.loop-line.invariant in
    rw add-one (sym (onward _ _ _ _ c.put_line-next.ensures) ∙ e)

pub returns : goal.returns
returns c =
    none _ _ ∙ (rw (drop_of_length-le c.args.lines.now {i = c.loop-line.line-index} c.loop-line-test.false) at c.loop-line.invariant)
