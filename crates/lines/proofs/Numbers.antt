-- A difference of rounded edges fits, and is what the machine reads back.
use mathlib.Core.Path.{◌≡◌, ◌∙◌}
use Prim.Native.Nat.{◌^◌, ◌<◌}
use native.Mathlib.Omega.{arith}
use borrow.Author.Rules.{sfits_of}
use lib.IntN.{ℤ, ◌+ℤ◌, ◌-ℤ◌}
use lib.Ieee.{Float}
use lib.Signed.{mag}
use mir.Syntax.{w32}
use mir.Val.{SFits}
use Rattle.prelude.proofs.Signed.{back, kept, read_back}
use Rattle.float.specs.Float.{k0}
use Rattle.numerics.specs.Value.{value, AtMost}
use Rattle.tenths.specs.Tenths.{tenths_of, span_of}
use Rattle.tenths.proofs.Floors.{Small, difference_small, small_mag}
use Rattle.tenths.proofs.TenthsLaws.{edge_alone}
use Rattle.lines.specs.Line.{most}
use Rattle.lines.proofs.LineLaws.{most_edge, edge_within, zero_in_range}

-- a difference of edges
module _ {p q : ℤ} (a : Small most_edge p) (b : Small most_edge q) where
  difference : back q -ℤ back p ≡ q -ℤ p
  difference = rw (kept p (omega (arith, small_mag p a)), kept q (omega (arith, small_mag q b)))

  difference_few : mag (q -ℤ p) < 2 ^ 31
  difference_few = omega (arith, small_mag (q -ℤ p) (difference_small b a))

  pub difference_fits : SFits w32 (back q -ℤ back p)
  difference_fits = rw difference (sfits_of difference_few)

  difference_is : back (back q -ℤ back p) ≡ q -ℤ p
  difference_is = read_back (rw difference difference_few) difference

-- a corner, and the side from it to an edge
pub edge_few : {x w : Float} {q : ℤ} → q ≡ tenths_of (value x +ℤ value w) → AtMost x most → AtMost w most → Small most_edge q
edge_few {x} {w} e a b = rw e (edge_within x w a b)

module _ {x w : Float} {p q : ℤ} (a : AtMost x most) (b : AtMost w most) (P : p ≡ tenths_of (value x +ℤ value k0)) (Q : q ≡ tenths_of (value x +ℤ value w)) where
  corner : p ≡ tenths_of (value x)
  corner = P ∙ edge_alone x

  corner_few : Small most_edge p
  corner_few = edge_few P a zero_in_range

  pub corner_is : back p ≡ tenths_of (value x)
  corner_is = read_back (omega (arith, small_mag p corner_few)) corner

  pub span_is : back (back q -ℤ back p) ≡ span_of (value x) (value w)
  unfolding span_of
  span_is = difference_is corner_few (edge_few Q a b) ∙ rw (Q, corner)
