-- Four numbers are put, each where the one before it ended.
use native.Mathlib.Omega.{arith}
use Rattle.prelude.proofs.Stores.{then}
use Rattle.wire.specs.Wire.{number_bytes, rect_bytes}
use Rattle.wire.proofs.put_rect.Goals as goal

pub returns : goal.returns
unfolding rect_bytes number_bytes
returns c =
    let then-h = then _ _ _ _ _ c.put_f32-3.ensures c.put_f32-4.ensures (omega arith) in
    let then-w = then _ _ _ _ _ c.put_f32-2.ensures then-h (omega arith) in
    then _ _ _ _ _ c.put_f32.ensures then-w (omega arith)
