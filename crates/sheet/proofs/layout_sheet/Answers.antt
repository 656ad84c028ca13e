-- `layout_sheet` puts the header and the lines of the layout, and the text that they make fits.
use mathlib.Core.Path.{◌≡◌, ap, sym, ◌∙◌}
use mathlib.Core.List.{List, map}
use Prim.Native.Nat.{ℕ}
use native.Mathlib.Omega.{arith}
use lib.ListN.{length, length-map, length-replicate}
use Rattle.layout.specs.declared.Layout.{Layout}
use Rattle.lines.specs.declared.SheetLine.{SheetLine}
use Rattle.lines.specs.Line.{line_in}
use Rattle.lines.proofs.Puts.{put_after, put_ends, put_length}
use Rattle.sheet.specs.Sheet.{lines_of, sheet_text, layout_sheet_of}
use Rattle.sheet.proofs.SheetLaws.{head_fits, lines_fit, sheet_fits}
use Rattle.sheet.proofs.Pages.{page_is}
use Rattle.sheet.proofs.layout_sheet.Goals as goal

-- as many lines as the layout has
count : (l : Layout) (lines : List SheetLine) → map line_in lines ≡ lines_of l → length lines ≡ length (lines_of l)
count l lines e = sym (length-map lines line_in) ∙ ap length e

pub put_lines-len-requires : goal.put_lines-len-requires
put_lines-len-requires c =
    let r = c.requires in
    let first = c.put_head-first.ensures in
    rw (c.deref.ensures.0, c.layout_lines-lines.ensures)
    (omega (arith, put_ends _ _ _ first, put_length _ _ _ first, length-replicate {A = ℕ} 1024 0, head_fits, lines_fit c.args.l r.0 r.1 r.2))

pub returns : goal.returns
unfolding layout_sheet_of sheet_text
returns c =
    let r = c.requires in
    let head = rw (c.len.ensures.value, count _ _ c.layout_lines-lines.ensures) at c.put_head-first.ensures in
    let rest = rw (c.deref.ensures.0, c.layout_lines-lines.ensures) at c.put_lines-len.ensures in
    page_is (sheet_text (lines_of c.args.l)) (put_after _ _ _ _ head rest) (omega (arith, sheet_fits c.args.l r.0 r.1 r.2))
