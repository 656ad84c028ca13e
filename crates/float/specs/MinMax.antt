-- Rust's min, max, clamp, abs and is_finite of f32.
use Rattle.std.specs.Prelude.{Bool, false, cond, Float}
use Rattle.std.specs.Float.{nan, inf, fin}
use Rattle.std.specs.Float.Ieee.{lt, ne}

-- The lesser: the first on a tie, and the other where one is NaN.
unfoldable pub min_of : Float → Float → Float
min_of a b = cond (ne a a) b (cond (lt b a) b a)

-- The greater: the first on a tie, and the other where one is NaN.
unfoldable pub max_of : Float → Float → Float
max_of a b = cond (ne a a) b (cond (lt a b) b a)

unfoldable pub clamp_of : Float → Float → Float → Float
clamp_of x low high = let y = cond (lt x low) low x in cond (lt high y) high y

-- The sign dropped.
unfoldable pub abs_of : Float → Float
abs_of nan = nan
abs_of (inf s) = inf false
abs_of (fin s m e) = fin false m e

unfoldable pub is_finite_of : Float → Bool
is_finite_of x = lt (abs_of x) (inf false)
