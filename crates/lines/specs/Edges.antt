-- The four edges of a rectangle, exact and as its line has them.
use Rattle.std.specs.Prelude.{ℤ, ◌+ℤ◌}
use Rattle.geometry.specs.declared.Rect.{Rect}
use Rattle.numerics.specs.Value.{value}
use Rattle.lines.specs.Line.{Line}

pub data FilmEdge : Type 0 where
  left : FilmEdge
  upper : FilmEdge
  right : FilmEdge
  lower : FilmEdge

-- in units of 2^-149
abbrev pub exact_edge : FilmEdge → Rect → ℤ
exact_edge left r = value r.x
exact_edge upper r = value r.y
exact_edge right r = value r.x +ℤ value r.w
exact_edge lower r = value r.y +ℤ value r.h

-- in tenths
abbrev pub printed_edge : FilmEdge → Line → ℤ
printed_edge left l = l.x
printed_edge upper l = l.y
printed_edge right l = l.x +ℤ l.w
printed_edge lower l = l.y +ℤ l.h
