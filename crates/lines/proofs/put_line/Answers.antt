-- `put_line` puts the name, the numbers and a line feed one after the other; the numbers that the machine reads back are the line's.
use mathlib.Core.Path.{◌≡◌, ap, ◌∙◌}
use Prim.Native.Nat.{◌+◌}
use native.Mathlib.Omega.{arith}
use lib.ListN.{length}
use mir.Syntax.{w32}
use mir.Val.{SFits, to_z, of_z}
use Rattle.std.proofs.Common.{rules}
use Rattle.std.proofs.lemmas.Int.{to_z-of_z}
use Rattle.lines.specs.declared.SheetLine.{SheetLine}
use Rattle.lines.specs.Line.{Line, line_in, field_text, line_text, Numbers, put_of}
use Rattle.lines.proofs.LineLaws.{length_parts}
use Rattle.lines.proofs.Puts.{one, put_after, put_ends, put_length}
use Rattle.lines.proofs.put_line.Goals as goal

-- a line with its numbers as they are read back
abbrev line_back : SheetLine → Line
line_back l = record { name = l.name.now; x = to_z w32 (of_z w32 l.x); y = to_z w32 (of_z w32 l.y); w = to_z w32 (of_z w32 l.w); h = to_z w32 (of_z w32 l.h) }

kept : (l : SheetLine) → Numbers (SFits w32) (line_in l) → line_back l ≡ line_in l
kept l f = rw (to_z-of_z w32 l.x f.x, to_z-of_z w32 l.y f.y, to_z-of_z w32 l.w f.w, to_z-of_z w32 l.h f.h)

-- how long its text is, field by field
parts : (l : SheetLine) → Numbers (SFits w32) (line_in l)
    → length (line_text (line_in l)) ≡ length l.name.now
    + (length (field_text (line_back l).x) + (length (field_text (line_back l).y) + (length (field_text (line_back l).w) + (length (field_text (line_back l).h) + 1))))
parts l f = rw (← kept l f) (length_parts (line_back l))

pub put_text-x-requires : goal.put_text-x-requires
put_text-x-requires c = omega (arith, length_parts (line_in c.args.l))

pub put_field-y-requires : goal.put_field-y-requires
put_field-y-requires c = omega (arith, put_ends, put_length, parts c.args.l (search rules))

pub put_field-w-requires : goal.put_field-w-requires
put_field-w-requires c = omega (arith, put_ends, put_length, parts c.args.l (search rules))

pub put_field-h-requires : goal.put_field-h-requires
put_field-h-requires c = omega (arith, put_ends, put_length, parts c.args.l (search rules))

pub put_field-feed-requires : goal.put_field-feed-requires
put_field-feed-requires c = omega (arith, put_ends, put_length, parts c.args.l (search rules))

pub bounds-out-feed : goal.bounds-out-feed
bounds-out-feed c = omega (arith, put_ends, put_length, parts c.args.l (search rules))

pub overflow_add-result : goal.overflow_add-result
overflow_add-result c = omega (arith, put_ends, put_length, parts c.args.l (search rules))

pub returns : goal.returns
unfolding line_text
returns c =
    put_after _ _ _ _ c.put_text-x.ensures (put_after _ _ _ _ c.put_field-y.ensures (put_after _ _ _ _ c.put_field-w.ensures
    (put_after _ _ _ _ c.put_field-h.ensures (put_after _ _ _ _ c.put_field-feed.ensures (one _ _ 10)))))
    ∙ ap (λ l. put_of c.args.out.now c.args.at (line_text l)) (kept c.args.l (search rules))
