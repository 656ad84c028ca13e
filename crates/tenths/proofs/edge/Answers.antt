-- `edge` adds the tenfolds, which are small, and a half, and shifts: this is the sum's tenths.
use mathlib.Core.Path.{◌∙◌}
use Prim.Native.Nat.{◌^◌}
use borrow.Author.Rules.{rules}
use lib.Dec.{lit≤}
use Rattle.tenths.proofs.Floors.{Small}
use Rattle.tenths.proofs.TenthsLaws.{tenths_sum}
use Rattle.tenths.proofs.Machine.{narrowed}
use Rattle.tenths.proofs.Patterns.{grain, few}
use Rattle.tenths.proofs.edge.Goals as goal

pub returns : goal.returns
returns c =
    let left : Small (2 ^ 56) c.tenfold.result = rw c.tenfold.ensures (few _ (search rules) c.requires.0) in
    let right : Small (2 ^ 56) c.tenfold-2.result = rw c.tenfold-2.ensures (few _ (search rules) c.requires.1) in
    let x = grain _ (search rules) c.requires.0 in
    let w = grain _ (search rules) c.requires.1 in
    narrowed _ _ left right 0x4_0000_0000 (lit≤ tt) ∙ rw (c.tenfold.ensures, c.tenfold-2.ensures) (tenths_sum _ _ x w)
