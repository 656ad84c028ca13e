-- After i turns the first i controls are where `place` has them.
use Rattle.std.proofs.Common.{◌≡◌, ◌++◌, take, drop}
use mathlib.Core.List.{map}
use Rattle.geometry.specs.declared.Rect.{Rect}
use Rattle.layout.specs.declared.Control.{Control}
use Rattle.layout.specs.Layout.{with_bounds}
use Rattle.places.proofs.move_all.Given as goal

abbrev pub invariant-loop-c : goal.invariant-loop-c
invariant-loop-c g l =
    (h : Control → Rect) → ((c : Control) (r : Rect) → goal.F-post g l.place c r → r ≡ h c)
    → l.controls ≡ map (λ c. with_bounds c (h c)) (take l.c-index l.initial.controls) ++ drop l.c-index l.initial.controls
