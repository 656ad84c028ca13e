-- The toolbar leaves the counts.
use native.Mathlib.Omega.{arith}
use Rattle.toolbar.specs.Toolbar.{anchor_toolbar_of}
use Rattle.float.proofs.Ends.{zero_le_max}
use Rattle.camera_rails.specs.CameraRails.{anchored_rails_of}
use Rattle.layout.specs.Layout.{Few}
use Rattle.camera_rails.proofs.anchored_rails.Goals as goal

pub anchor_toolbar-requires : goal.anchor_toolbar-requires
anchor_toolbar-requires c = (c.requires, (omega arith, omega arith), rw c.reusable_top.ensures (zero_le_max _))

pub returns : goal.returns
unfolding anchored_rails_of
returns c =
    let inputs = c.with_inputs-layout in
    let few : Few c.anchor_toolbar.result = unfold anchor_toolbar_of in (rw c.anchor_toolbar.ensures (inputs.ensures.1, inputs.ensures.2)) in
    (rw (← c.camera_railed.ensures.0, ← inputs.ensures.0, ← c.reusable_top.ensures, ← c.anchor_toolbar.ensures), few)
