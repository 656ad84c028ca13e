-- The bytes in the place of as many: a run of stores.
use Rattle.std.proofs.Common.{◌+◌, length, append_assoc, arith}
use borrow.Rule.Slice.PartMut.{Post-is}
use Rattle.std.proofs.lemmas.List.Edits.{sets-eq}
use Rattle.prelude.specs.Lists.{stored}
use Rattle.lines.specs.Line.{put_of}
use Rattle.lines.proofs.put_text.Goals as goal

pub returns : goal.returns
unfolding put_of stored
returns c =
    let a = c.args in
    rw (c.copy_from_slice.ensures.after, Post-is a.at (a.at + length a.text.now) a.out.now (omega arith), ← append_assoc, sets-eq a.text.now a.out.now a.at c.requires)
