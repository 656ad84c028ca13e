-- Laws of printed edges: each is the exact edge, rounded; so equal ones are printed alike.
use mathlib.Core.Path.{◌≡◌, refl}
use mathlib.Core.List.{List}
use Prim.Native.Nat.{ℕ}
use Rattle.geometry.specs.declared.Rect.{Rect}
use Rattle.numerics.specs.Value.{value}
use Rattle.tenths.specs.Tenths.{tenths_of}
use Rattle.tenths.proofs.SpanLaws.{span_meets}
use Rattle.lines.specs.Line.{line_of}
use Rattle.lines.specs.Edges.{FilmEdge, left, upper, right, lower, exact_edge, printed_edge}

module _ (name : List ℕ) (r : Rect) where
  pub edge_rounded : (e : FilmEdge) → printed_edge e (line_of name r) ≡ tenths_of (exact_edge e r)
  unfolding line_of
  edge_rounded left = refl
  edge_rounded upper = refl
  edge_rounded right = span_meets (value r.x) (value r.w)
  edge_rounded lower = span_meets (value r.y) (value r.h)
