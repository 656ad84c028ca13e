-- Document 01's hypot, over whole numbers: the f32 nearest the exact root of the sum of squares, ties to even; infinite if either side is, else NaN with NaN.
use Prim.Native.Nat.{ℕ, zero, suc, ◌+◌, ◌-◌, ◌*◌, ◌/◌, ◌^◌, compare}
use Rattle.std.specs.Prelude.{false, cond, leb, ℤ, Float}
use Rattle.std.specs.Float.{nan, inf, fin, binary32}
use Rattle.std.specs.Float.Ieee.{up, down, size, nearest, units}

-- r + 1 if its square is at most n, else r
abbrev pub grow : ℕ → ℕ → ℕ
grow n r = cond (leb ((r + 1) * (r + 1)) n) (r + 1) r

-- The largest r with r * r ≤ n, for an n below 4 ^ d: a binary digit of r for two of n.
unfoldable pub root_below : ℕ → ℕ → ℕ
root_below zero n = zero
root_below (suc d) n = grow n (2 * root_below d (n / 4))

-- The largest r with r * r ≤ n.
unfoldable pub isqrt : ℕ → ℕ
unfolding root_below size
isqrt n = root_below (size n) n

-- The f32 nearest the root of n, ties to even, the root counted in units of 2 ^ -149. Of the root's whole part the format keeps the 24 leading
-- digits, q, and drops k. The root lies from q to q + 1 times 2 ^ k; by squares it is compared with the midpoint, h / 2.
unfoldable pub nearest_root : ℕ → Float
unfolding isqrt size units
nearest_root n =
    let k = size (isqrt n) - 24 in
    let q = isqrt n / 2 ^ k in
    let h = (2 * q + 1) * 2 ^ k in
    units binary32 false (nearest q (compare (4 * n) (h * h))) k

-- The size of the finite f32 m * 2 ^ e, which is a whole number of 2 ^ -149.
abbrev pub whole : ℕ → ℤ → ℕ
whole m e = m * up e * 2 ^ 149 / down e

unfoldable pub hypot_of : Float → Float → Float
unfolding nearest_root
hypot_of (inf s) y = inf false
hypot_of nan nan = nan
hypot_of nan (inf t) = inf false
hypot_of nan (fin t n d) = nan
hypot_of (fin s m e) nan = nan
hypot_of (fin s m e) (inf t) = inf false
hypot_of (fin s m e) (fin t n d) = nearest_root (whole m e * whole m e + whole n d * whole n d)
