-- `action_bounds`: the box around the faces passed, if there was one.
use Rattle.std.specs.Prelude.{◌≡◌, List, take}
use Rattle.prelude.specs.Lists.{filter_map}
use Rattle.geometry.specs.declared.Rect.{Rect}
use Rattle.layout.specs.declared.Control.{Control}
use Rattle.layout.specs.Label.{is_face_of}
use Rattle.layout.specs.Layout.{control_list}
use Rattle.prelude.proofs.Filters.{reduced}
use Rattle.layout.specs.Actions.{join_of}
use Rattle.layout.proofs.Layout.action_bounds.Given as goal

-- the rectangles of the face controls
abbrev pub faces : List Control → List Rect
faces cs = filter_map (λ c. is_face_of c.label) (λ c. c.bounds) cs

abbrev pub invariant-loop-c : goal.invariant-loop-c
invariant-loop-c l = l.bounds ≡ reduced join_of (faces (take l.c-index (control_list l.fn.self)))
