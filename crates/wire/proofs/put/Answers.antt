-- The bytes in the place of as many: a run of stores.
use Rattle.std.proofs.Common.{◌+◌, length, sym, append_assoc, arith}
use borrow.Rule.Slice.PartMut.{Post-is}
use Rattle.std.proofs.lemmas.List.Edits.{sets-eq}
use Rattle.prelude.specs.Lists.{stored}
use Rattle.wire.proofs.put.Goals as goal

pub returns : goal.returns
unfolding stored
returns c =
    let a = c.args in
    rw (c.copy_from_slice.ensures.after, Post-is a.at (a.at + length a.bytes.now) a.out.now (omega arith), ← append_assoc) (sym (sets-eq a.bytes.now a.out.now a.at c.requires))
