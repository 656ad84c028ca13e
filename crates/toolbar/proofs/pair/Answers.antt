-- `pair` is the pass: a turn goes on from the first obstacle that the bar overlaps.
use mathlib.Core.Path.{◌≡◌, sym, ◌∙◌}
use Prim.Native.Nat.{suc, ◌+◌, ◌-◌}
use native.Mathlib.Nat.{sub-zero}
use lib.ListN.{length}
use Rattle.std.proofs.Common.{arith, rules, tests}
use Rattle.std.proofs.lemmas.Iterator.{YieldsList-from_slice}
use Rattle.std.proofs.lemmas.Iterator.Search.{find_from_yields_List}
use Rattle.geometry.specs.Rect.{overlaps_of}
use Rattle.toolbar.specs.Toolbar.{pass, pair_of}
use Rattle.toolbar.proofs.Pass.{goes_on, is_free}
use Rattle.toolbar.proofs.pair.Goals as goal

pub loop-init : goal.loop-init
unfolding pair_of
loop-init c = rw sub-zero

pub loop-preserved : goal.loop-preserved
loop-preserved c =
    let found = find_from_yields_List (overlaps_of c.loop.bar) _ _ c.find.result c.find.ensures.ran (YieldsList-from_slice c.args.obstacles.now c.iter.ensures.rest) (λ x b q k. search (rules, tests)) in
    let n : length c.args.obstacles.now + 1 - c.loop.counter ≡ suc (length c.args.obstacles.now + 1 - (c.loop.counter + 1)) = omega arith in
    rw c.moved-bar.ensures (sym (goes_on _ _ _ _ _ _ _ (rw c.in-Some.is at found)) ∙ (rw n at c.loop.invariant))

-- the last turn
pub returns-in-Some : goal.returns-in-Some
unfolding pass
returns-in-Some c =
    let found = find_from_yields_List (overlaps_of c.loop.bar) _ _ c.find.result c.find.ensures.ran (YieldsList-from_slice c.args.obstacles.now c.iter.ensures.rest) (λ x b q k. search (rules, tests)) in
    let n : length c.args.obstacles.now + 1 - c.loop.counter ≡ 1 = omega arith in
    rw c.moved-bar.ensures (sym (goes_on _ _ _ _ _ 0 _ (rw c.in-Some.is at found)) ∙ (rw n at c.loop.invariant))

pub returns-in_default : goal.returns-in_default
returns-in_default c =
    let found = find_from_yields_List (overlaps_of c.loop.bar) _ _ c.find.result c.find.ensures.ran (YieldsList-from_slice c.args.obstacles.now c.iter.ensures.rest) (λ x b q k. search (rules, tests)) in
    sym (is_free _ _ _ _ _ _ (rw c.in_default.is at found)) ∙ c.loop.invariant
