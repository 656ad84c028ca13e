-- One rectangle a turn; past the n-th the array has its zeros.
use mathlib.Core.Path.{◌≡◌, sym, ◌∙◌}
use mathlib.Core.List.{List, ◌++◌, append-nil}
use Prim.Native.Nat.{ℕ, suc, ◌+◌, ◌<◌}
use native.Mathlib.Numerals.{add-one}
use native.Mathlib.Omega.{arith}
use lib.ListN.{length, take, drop, set, replicate, length-replicate, drop_of_length-le}
use lib.Seq.{drop-cons, set_at, append_snoc, length-take-le}
use Rattle.std.proofs.lemmas.List.{drop-replicate}
use Rattle.prelude.specs.Lists.{tabulate}
use Rattle.prelude.proofs.ListLaws.{length_tabulate}
use Rattle.geometry.specs.declared.Rect.{Rect}
use Rattle.geometry.specs.Rect.{empty_rect}
use Rattle.wire.specs.Wire.{rect_at_of, filled}
use Rattle.reader.proofs.rects.Goals as goal

put_next : (f : ℕ → Rect) (xs : List Rect) (i : ℕ) → i < length xs → set (tabulate f i ++ drop i xs) i (f i) ≡ tabulate f (i + 1) ++ drop (i + 1) xs
unfolding tabulate
put_next f xs i h =
    rw (add-one, drop-cons xs i empty_rect h) (set_at (tabulate f i) _ (drop (suc i) xs) (f i) i (length_tabulate f i) ∙ sym (append_snoc (tabulate f i) (f i) (drop (suc i) xs)))

pub loop-i-preserved : goal.loop-i-preserved
loop-i-preserved g c = rw (c.rect_at.ensures, c.loop-i.invariant) (put_next (rect_at_of c.args.value.now) _ c.loop-i.i c.loop-i-test.true)

pub returns : goal.returns
unfolding filled
returns g c =
    let n = c.args.n in
    let i = c.loop-i.i in
    let zeros = replicate g.row.N empty_rect in
    let front : length (take n zeros) ≡ n = length-take-le n zeros (rw length-replicate c.requires.0) in
    let all : i ≡ n = omega (arith, front) in
    rw (c.loop-i.invariant, all, drop_of_length-le (take n zeros) {i = n} (omega (arith, front)), append-nil, drop-replicate)
