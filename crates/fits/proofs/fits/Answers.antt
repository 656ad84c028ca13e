-- `fits`: each turn is a step of `all_fit`.
use mathlib.Core.Path.{ap, sym, ◌∙◌}
use lib.ListN.{drop_of_length-le}
use Rattle.layout.specs.Layout.{any_rect}
use Rattle.fits.specs.Fits.{from_stick, all_fit, fits_of}
use Rattle.fits.proofs.Turns.{fits_turn}
use Rattle.fits.proofs.fits.Goals as goal

pub loop-i-init : goal.loop-i-init
unfolding fits_of
loop-i-init c = let s = c.args in ap (all_fit s.w s.h s.game s.holes.now) (c.as_slice-inputs.ensures.value ∙ c.inputs-list.ensures)

pub returns-then-not-lies_clear : goal.returns-then-not-lies_clear
returns-then-not-lies_clear c =
    let s = c.args in
    rw (← c.loop-i.invariant, fits_turn s.w s.h s.game s.holes.now c.as_slice-inputs.result.now c.loop-i.i (from_stick any_rect) c.loop-i-test.true, ← c.lies_clear.ensures, c.if-not-lies_clear.true)

pub returns-then-not-separate_after : goal.returns-then-not-separate_after
returns-then-not-separate_after c =
    let s = c.args in
    rw (← c.loop-i.invariant, fits_turn s.w s.h s.game s.holes.now c.as_slice-inputs.result.now c.loop-i.i (from_stick any_rect) c.loop-i-test.true, ← c.lies_clear.ensures, c.if-not-lies_clear.false, ← c.separate_after.ensures, c.if-not-separate_after.true)

pub loop-i-preserved : goal.loop-i-preserved
loop-i-preserved c =
    let s = c.args in
    rw (← c.loop-i.invariant, fits_turn s.w s.h s.game s.holes.now c.as_slice-inputs.result.now c.loop-i.i (from_stick any_rect) c.loop-i-test.true, ← c.lies_clear.ensures, c.if-not-lies_clear.false, ← c.separate_after.ensures, c.if-not-separate_after.false)

pub returns : goal.returns
unfolding all_fit
returns c =
    let s = c.args in
    ap (all_fit s.w s.h s.game s.holes.now) (sym (drop_of_length-le c.as_slice-inputs.result.now {i = c.loop-i.i} c.loop-i-test.false)) ∙ c.loop-i.invariant
