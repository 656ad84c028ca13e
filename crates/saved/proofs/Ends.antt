-- The ends that a saved side and a saved corner are clamped to are in order, on a screen of finite sides and whatever the least side is.
use lib.Dec.{T}
use lib.Ieee.{Float, le}
use lib.Ieee.Scale.{finite}
use Rattle.float.specs.Float.{◌⊖◌, ◌⊗◌, k0}
use Rattle.float.specs.MinMax.{min_of, clamp_of}
use Rattle.float.proofs.Ends.{finite_number, min_le_right, clamp_le_high, zero_le_sub}
use Rattle.numerics.proofs.Ranges.{mul_not_nan}

module _ (least w : Float) (W : T (finite w)) where
  pub side_ends : T (le (min_of least w) w)
  side_ends = min_le_right least w (finite_number w W)

  -- what is left of w beside a side that is clamped to it
  pub corner_ends : (x : Float) → T (finite x) → T (le k0 (w ⊖ clamp_of (x ⊗ w) (min_of least w) w))
  corner_ends x X = zero_le_sub w (clamp_of (x ⊗ w) (min_of least w) w) W (clamp_le_high (x ⊗ w) (min_of least w) w (mul_not_nan x w X W) side_ends)
