-- The loops over x and y have done the first part of their folds; what is left of the inner one gives the whole width, or is given up.
use Rattle.std.proofs.Common.{◌≡◌, drop}
use mathlib.Core.List.{foldl}
use Rattle.geometry.specs.Rect.{empty_rect}
use Rattle.search.specs.Search.{narrow_side_of, side_width_at, try_side_at, try_column}
use Rattle.search.proofs.side.Given as goal

abbrev pub invariant-loop-r : goal.invariant-loop-r
invariant-loop-r l = foldl (narrow_side_of l.aspect l.x l.y) l.width (drop l.r-index l.obstacles) ≡ side_width_at l.w l.h l.obstacles l.aspect l.x l.y

abbrev pub invariant-loop-y : goal.invariant-loop-y
invariant-loop-y l = l.best ≡ foldl (try_side_at l.w l.h l.obstacles l.aspect l.x) l.initial.best l.yielded

abbrev pub invariant-loop-x : goal.invariant-loop-x
invariant-loop-x l = l.best ≡ foldl (try_column l.w l.h l.obstacles l.aspect) empty_rect l.yielded
