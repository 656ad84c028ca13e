-- The outer loop has done the first part of the fold; what is left of the inner one gives the whole width, or is given up.
use Rattle.std.proofs.Common.{◌≡◌, drop}
use mathlib.Core.List.{foldl}
use Rattle.float.specs.Float.{◌⊘◌, k2}
use Rattle.geometry.specs.Rect.{empty_rect}
use Rattle.search.specs.Search.{narrow_of, width_at, try_at}
use Rattle.search.proofs.centered.Given as goal

abbrev pub invariant-loop-r : goal.invariant-loop-r
invariant-loop-r l = foldl (narrow_of (l.w ⊘ k2) l.aspect l.y) l.width (drop l.r-index l.obstacles) ≡ width_at l.w l.h l.obstacles l.aspect l.y

abbrev pub invariant-loop-y : goal.invariant-loop-y
invariant-loop-y l = l.best ≡ foldl (try_at l.w l.h l.obstacles l.aspect) empty_rect l.yielded
