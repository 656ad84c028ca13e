-- `side` is the fold `side_of`, of folds over y.
use mathlib.Core.Path.{refl, ◌∙◌}
use mathlib.Core.Logic.{inl, inr}
use Rattle.std.proofs.Common.{rules}
use Rattle.std.specs.Prelude.{Some}
use Rattle.std.proofs.lemmas.List.{map-id}
use Rattle.std.proofs.lemmas.Iterator.{YieldsList-from_slice, YieldsList-from_map}
use Rattle.std.proofs.lemmas.Iterator.Adapters.{YieldsList-from_once}
use Rattle.std.proofs.lemmas.Iterator.Consumers.{YieldsList-at, YieldsList-from_chain, YieldsList-end}
use Rattle.prelude.proofs.Booleans.{cond_yes, cond_no}
use Rattle.float.specs.Float.{k0}
use Rattle.search.specs.Search.{bottom_of, right_of, try_side_at, try_column, side_of}
use Rattle.search.proofs.Narrower.{narrow_side_below, turn_is_full}
use Rattle.search.proofs.Steps.{fold_more}
use Rattle.search.proofs.side.Goals as goal
use Rattle.search.proofs.side.Goals.{else-loop-r-test, then-loop-r-test+then-width-best}

pub loop-y-preserved-then-within-2 : goal.loop-y-preserved-then-within-2
unfolding try_side_at
loop-y-preserved-then-within-2 c =
    rw (fold_more, ← c.loop-y.invariant)
    (cond_yes _ _ _ c.within-in-loop-y.ensures c.if-within-2.true
    (c.better-best.ensures ∙ turn_is_full _ _ _ _ (narrow_side_below _ _ _ _) (λ _. c.in-Some.x) _ _ c.loop-r.invariant
    (elim c.loop-r-test.branch [ else-loop-r-test w ↦ inl w.loop-r-test.false | then-loop-r-test+then-width-best w ↦ inr w.if-width-best.true ])))

pub loop-y-preserved : goal.loop-y-preserved
unfolding try_side_at
loop-y-preserved c = rw (fold_more, ← c.loop-y.invariant) (cond_no _ _ _ c.within-in-loop-y.ensures c.if-within-2.false refl)

pub loop-x-preserved-in-None-y : goal.loop-x-preserved-in-None-y
unfolding try_column
loop-x-preserved-in-None-y c =
    let seen = YieldsList-end
    (YieldsList-at c.into_iter-y-iterator.ensures.into_iter_gives
    (YieldsList-from_chain (YieldsList-at c.chain-y-items.ensures.first (YieldsList-from_once (Some k0) c.once-then-within.ensures.item))
    (YieldsList-at c.chain-y-items.ensures.second (YieldsList-from_map _ bottom_of (YieldsList-at c.map-then-within.ensures.source (YieldsList-from_slice c.args.obstacles.now c.iter-then-within.ensures.rest)) c.map-then-within.ensures.closure (λ x r q k. search rules)))
    c.chain-y-items.ensures.first_done c.chain-y-items.ensures.second_done))
    c.loop-y.yielded _ c.loop-y.yielded_by _ _ c.in-None-y.is c.next-in-loop-y.ensures.steps in
    rw (fold_more, ← c.loop-x.invariant) (cond_yes _ _ _ c.within.ensures c.if-within.true (rw (rw map-id at seen.0) at c.loop-y.invariant))

pub loop-x-preserved : goal.loop-x-preserved
unfolding try_column
loop-x-preserved c = rw (fold_more, ← c.loop-x.invariant) (cond_no _ _ _ c.within.ensures c.if-within.false refl)

pub returns : goal.returns
unfolding side_of
returns c =
    let seen = YieldsList-end
    (YieldsList-at c.into_iter-x-iterator.ensures.into_iter_gives
    (YieldsList-from_chain (YieldsList-at c.chain-x-items.ensures.first (YieldsList-from_once (Some k0) c.once.ensures.item))
    (YieldsList-at c.chain-x-items.ensures.second (YieldsList-from_map _ right_of (YieldsList-at c.map.ensures.source (YieldsList-from_slice c.args.obstacles.now c.iter.ensures.rest)) c.map.ensures.closure (λ x r q k. search rules)))
    c.chain-x-items.ensures.first_done c.chain-x-items.ensures.second_done))
    c.loop-x.yielded _ c.loop-x.yielded_by _ _ c.in-None.is c.next.ensures.steps in
    rw (rw map-id at seen.0) at c.loop-x.invariant
