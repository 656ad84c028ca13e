-- `rounded` meets its contract. The loop's invariant is `LeadingDigits`.
use native.Mathlib.Omega.{arith}
use Prim.Native.Nat.{◌+◌, ◌*◌, compare}
use lib.Ieee.Fits.{nearest-le}
use Rattle.hypot.proofs.Ways.{leading_start, leading_next, leading_places, rounds}
use Rattle.hypot.proofs.rounded.Goals as goal

pub loop-c-init : goal.loop-c-init
loop-c-init c = leading_start c.args.w c.args.f c.requires.w_large

pub overflow_add-k : goal.overflow_add-k
overflow_add-k c = let i = c.loop-c in let a = c.args in omega (arith, leading_places a.w a.f i.c i.u i.k i.invariant)

pub loop-c-preserved : goal.loop-c-preserved
loop-c-preserved c =
    let i = c.loop-c in
    let a = c.args in
    leading_next a.w a.f i.c i.u i.k i.invariant c.requires.w_bound c.loop-c-test.true

pub packed-requires : goal.packed-requires
packed-requires c =
    let i = c.loop-c in
    let a = c.args in
    let o = compare a.w ((2 * i.c + 1) * (2 * i.u)) in
    record {
      t_bound = omega (arith, c.nearest_whole.ensures, nearest-le i.c o);
      k_bound = omega (arith, leading_places a.w a.f i.c i.u i.k i.invariant);
    }

pub returns : goal.returns
returns c =
    let i = c.loop-c in
    let a = c.args in
    λ n m r e.
    rw (c.packed.ensures, c.nearest_whole.ensures) (rounds n m a.w a.f i.c i.u i.k r e i.invariant c.loop-c-test.false)
