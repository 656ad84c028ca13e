-- One element a turn, by `turn`.
use mathlib.Core.Path.{◌≡◌, refl}
use native.Mathlib.Numerals.{add-one}
use Rattle.std.specs.Prelude.{Some, None}
use Rattle.std.specs.List.{slice_get}
use Rattle.std.proofs.lemmas.Option.{slice_get_read, slice_get_past}
use Rattle.layout.specs.Layout.{any_rect}
use Rattle.saved.proofs.Turns.{at_first, turn}
use Rattle.saved.proofs.restore_all.Goals as goal
use Rattle.saved.proofs.restore_all.Goals.{in-Some, in_default}

pub loop-i-init : goal.loop-i-init
loop-i-init c = at_first _ _ c.args.saved.now c.args.elements.now

pub loop-i-preserved : goal.loop-i-preserved
loop-i-preserved c =
    let a = c.args in
    let i = c.loop-i.i in
    let next = turn a.w a.h i a.saved.now a.elements.now any_rect c.loop-i-test.true in
    elim c.match-get.branch [
      | in-Some w ↦
          let got : slice_get a.saved.now i ≡ Some w.in-Some.r.now = let l = w.in-Some.ensures.lookup in slice_get_read a.saved.now _ i w.in-Some.r.now refl l.3.0 l.1 in
          rw (w.elements-is, w.restore.ensures, c.loop-i.invariant, add-one) (rw got at next)
      | in_default w ↦
          let got : slice_get a.saved.now i ≡ None = slice_get_past a.saved.now i w.in_default.ensures.lookup.3 in
          rw (w.elements-is, c.loop-i.invariant, add-one) (rw got at next)
    ]
