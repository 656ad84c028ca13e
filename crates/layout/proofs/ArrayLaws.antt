-- The lengths of the arrays of a layout that a function is handed, as owning it tells (`good` of the function's start), and a control in use as a place of its array.
use mathlib.Core.List.{List}
use mathlib.Core.Path.{◌≡◌, ap, ◌∙◌}
use Prim.Native.Nat.{ℕ, ◌<◌, ◌≤◌}
use native.Mathlib.Omega.{arith}
use lib.ListN.{length, get_or}
use lib.Seq.{get_or-take, length-take-le}
use mir.Val.{Val}
use denote.Laws.{Is}
use denote.Struct.Declared.{row}
use Rattle.prelude.proofs.Loops.{sized}
use Rattle.layout.specs.declared.Control.{Control}
use Rattle.layout.specs.declared.Layout.{Layout}
use Rattle.layout.specs.Layout.{any_control, control_list}
use Rattle.layout.specs.Labels.{Arrays}
use Rattle.layout.specs.contracts.Layout.{the_type}

pub array_lengths : (l : Layout) {vs : List Val} → Is (row the_type) l vs → Arrays l
array_lengths l owned = (search sized, search sized)

-- the control at an index of those in use, as a place of the array
pub control_passed : (l : Layout) {cs : List Control} {i : ℕ} → length l.controls ≡ 12 → l.count ≤ 12 → cs ≡ control_list l → i < length cs
    → (i < length l.controls) × (get_or cs i any_control ≡ get_or l.controls i any_control)
control_passed l {cs = cs} {i = i} size few e h =
    let n : length (control_list l) ≡ l.count = length-take-le l.count l.controls (omega arith) in
    let k : i < l.count = rw (e, n) at h in
    (omega arith, ap (λ xs. get_or xs i any_control) e ∙ get_or-take l.count l.controls i any_control k)
