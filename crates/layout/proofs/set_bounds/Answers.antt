-- `set_bounds`: one control a turn gets the rectangle that follows.
use native.Mathlib.Omega.{arith}
use mathlib.Core.Path.{◌≡◌, ◌∙◌}
use Prim.Native.Nat.{◌+◌, ◌-◌, ◌<◌, suc}
use mathlib.Core.List.{zip_with}
use lib.ListN.{length, length-drop, take, drop, get_or}
use lib.Seq.{get_or-take, length-take-le}
use Rattle.prelude.proofs.ListLaws.{length_zip_with, get_d_zip_with}
use Rattle.prelude.proofs.Loops.{sized}
use Rattle.prelude.proofs.Stores.{replaces}
use Rattle.layout.specs.Layout.{any_rect, any_control, with_bounds}
use Rattle.layout.proofs.set_bounds.Goals as goal

pub loop-i-preserved : goal.loop-i-preserved
loop-i-preserved c =
    let i = c.loop-i.i in
    let cs = c.args.controls in
    let rs = drop 1 c.args.rects.now in
    let n : length cs ≡ 12 = search sized in
    let m = length-drop 1 c.args.rects.now in
    let k : length (take (c.args.n + 1 - 1) rs) ≡ c.args.n + 1 - 1 = length-take-le (c.args.n + 1 - 1) rs (omega arith) in
    let h : i < length (zip_with with_bounds cs rs) = length_zip_with with_bounds (suc i) cs rs (omega arith) (omega arith) in
    let v : get_or (take (c.args.n + 1 - 1) rs) i any_rect ≡ get_or rs i any_rect = get_or-take (c.args.n + 1 - 1) rs i any_rect (omega arith) in
    replaces (zip_with with_bounds cs rs) cs any_control c.loop-i.invariant (omega arith) h (omega arith) (c.with_bounds.ensures ∙ rw (v, get_d_zip_with with_bounds cs rs i any_control any_rect any_control))
