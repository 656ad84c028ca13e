-- By the test: the inputs of a psp (`psp_counts`), or the layout as it is.
use mathlib.Core.Path.{◌≡◌}
use lib.ListN.{length}
use Rattle.prelude.proofs.Loops.{sized}
use Rattle.layout.proofs.PspLaws.{psp_counts}
use Rattle.layout.proofs.with_inputs.Goals as goal

pub returns-then-psp : goal.returns-then-psp
returns-then-psp c =
    let n : length c.args.l.controls ≡ 12 = search sized in
    let k = psp_counts c.args.l n c.requires in
    let e = c.psp_inputs.ensures in
    (rw c.if-psp.true e, rw e k.0, rw e k.1)

pub returns : goal.returns
returns c = (rw c.if-psp.false, c.requires.0, c.requires.1)
