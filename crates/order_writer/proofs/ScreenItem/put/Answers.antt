-- Two numbers, one after the other.
use native.Mathlib.Omega.{arith}
use Rattle.prelude.proofs.Stores.{then}
use Rattle.wire.specs.Wire.{number_bytes}
use Rattle.order_writer.proofs.ScreenItem.put.Goals as goal

pub returns : goal.returns
unfolding number_bytes
returns c = then _ _ _ _ _ c.put_f32.ensures c.put_f32-2.ensures (omega arith)
