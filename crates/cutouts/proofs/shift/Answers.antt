-- Each member was shifted, or none.
use native.Mathlib.Omega.{arith}
use lib.ListN.{get_or, length, length-map}
use lib.Seq.{take_all}
use mathlib.Core.Path.{◌≡◌, ap, ◌∙◌}
use Rattle.std.proofs.lemmas.Slice.Zip.{zip_end}
use Rattle.layout.specs.Layout.{any_rect}
use Rattle.cutouts.specs.Cutouts.{shift_of, shift_by_of}
use Rattle.cutouts.proofs.shift.Goals as goal

pub returns-in-None : goal.returns-in-None
unfolding shift_of
returns-in-None c =
    let s = c.args in
    let l = c.loop-i in
    let n = zip_end s.group.now s.original.now l.yielded c.into_iter-i-iterator.result l.i-iterator c.next.new.self c.next.result (cc) (cc) l.yielded_by c.in-None.is c.next.ensures.steps in
    let m : length s.original.now ≡ length s.group.now = ap length c.requires.1 ∙ length-map s.group.now (λ i. get_or s.elements.now i any_rect) in
    rw c.in-Go.is (l.invariant.2 ∙ ap (λ is. shift_by_of s.elements.now is c.in-Go.dx c.in-Go.dy) (take_all (length l.yielded) s.group.now (omega (arith, n, m))))

pub returns-in_default : goal.returns-in_default
unfolding shift_of
returns-in_default c = rw c.in_default.is
