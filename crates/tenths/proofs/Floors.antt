-- Whole numbers divided and rounded down, as `shr_z` does: by their parts above and below zero, for `omega`.
use mathlib.Core.Path.{◌≡◌, ap}
use Prim.Native.Nat.{ℕ, ◌+◌, ◌*◌, ◌≤◌, ◌<◌}
use native.Mathlib.Nat.{div-add-mod', mod-lt, lt_of_mul-lt-mul_right, mul-le-mul_right, le_trans}
use native.Mathlib.Omega.{arith}
use lib.IntN.{ℤ, pos, negsuc, nat_abs, ◌+ℤ◌, ◌-ℤ◌}
use lib.Signed.{shr_z, mag}
use Rattle.prelude.proofs.Signed.{mag_abs}
use Rattle.numerics.specs.Value.{above, below}
use Rattle.numerics.proofs.Integers.{add_parts, sub_parts}

-- f is (p - q) / d rounded down
pub record Floor (p q d : ℕ) (f : ℤ) : Type 0 where
  pub lo : above f * d + q ≤ p + below f * d
  pub hi : p + below f * d < above f * d + d + q

pub floor : (z : ℤ) {d : ℕ} → 0 < d → Floor (above z) (below z) d (shr_z z d)
floor (pos a) {d} h = record { lo = omega (arith, div-add-mod' a d); hi = omega (arith, div-add-mod' a d, mod-lt a h) }
floor (negsuc a) {d} h = record { lo = omega (arith, div-add-mod' a d, mod-lt a h); hi = omega (arith, div-add-mod' a d) }

-- the same number, written as another difference
pub moved : {p q d : ℕ} {f : ℤ} (p' q' : ℕ) → p + q' ≡ p' + q → Floor p q d f → Floor p' q' d f
moved p' q' e h = record { lo = omega arith; hi = omega arith }

-- in units k times smaller
pub finer : {p q d : ℕ} {f : ℤ} {k : ℕ} → 0 < k → Floor p q d f → Floor (p * k) (q * k) (d * k) f
finer {p = p} {q = q} {d = d} {f = f} {k = k} h a =
    record { lo = omega (arith, mul-le-mul_right k a.lo); hi = omega (arith, mul-le-mul_right k a.hi) }

pub coarser : {p q d : ℕ} {f : ℤ} (k : ℕ) → 0 < k → Floor (p * k) (q * k) (d * k) f → Floor p q d f
coarser {p = p} {q = q} {d = d} {f = f} k h a =
    let l : above f * d + q < p + below f * d + 1 = lt_of_mul-lt-mul_right k (omega arith) in
    record { lo = omega arith; hi = lt_of_mul-lt-mul_right k (omega arith) }

-- a number that is not larger is not larger when rounded
pub floor_le : {p q p' q' d : ℕ} {f g : ℤ} → Floor p q d f → Floor p' q' d g → p + q' ≤ p' + q → above f + below g ≤ above g + below f
floor_le {d = d} {f = f} {g = g} a b h =
    let l : above f + below g < above g + below f + 1 = lt_of_mul-lt-mul_right d (omega arith) in
    omega arith

same_parts : (f g : ℤ) → above f + below g ≡ above g + below f → f ≡ g
same_parts (pos a) (pos b) e = ap pos (omega arith)
same_parts (pos a) (negsuc b) e = absurd (let z : ⊥ = omega arith in z)
same_parts (negsuc a) (pos b) e = absurd (let z : ⊥ = omega arith in z)
same_parts (negsuc a) (negsuc b) e = ap negsuc (omega arith)

-- only one number is
pub floor_one : {p q d : ℕ} {f g : ℤ} → Floor p q d f → Floor p q d g → f ≡ g
floor_one {p = p} {q = q} {f = f} {g = g} a b = let l = floor_le a b (omega arith) in let m = floor_le b a (omega arith) in same_parts f g (omega arith)

-- multiples of d are not rounded
pub floor_exact : {d : ℕ} {f : ℤ} (c e : ℕ) → Floor (c * d) (e * d) d f → c + below f ≡ above f + e
floor_exact {d = d} {f = f} c e a =
    let l : c + below f < above f + e + 1 = lt_of_mul-lt-mul_right d (omega arith) in
    let m : above f + e < c + below f + 1 = lt_of_mul-lt-mul_right d (omega arith) in
    omega arith

-- ---- sizes
pub record Small (s : ℕ) (f : ℤ) : Type 0 where
  pub above : above f ≤ s
  pub below : below f ≤ s

pub small_of : (s : ℕ) (f : ℤ) → above f < s + below f + 1 → below f < s + above f + 1 → Small s f
small_of s (pos n) h k = record { above = omega arith; below = omega arith }
small_of s (negsuc n) h k = record { above = omega arith; below = omega arith }

pub floor_small : {p q d : ℕ} {f : ℤ} (s : ℕ) → Floor p q d f → p + q ≤ s * d → Small s f
floor_small {d = d} {f = f} s a h = small_of s f (lt_of_mul-lt-mul_right d (omega arith)) (lt_of_mul-lt-mul_right d (omega arith))

pub sum_small : {s t : ℕ} {f g : ℤ} → Small s f → Small t g → Small (s + t) (f +ℤ g)
sum_small {s} {t} {f} {g} a b = let e = add_parts f g in small_of (s + t) (f +ℤ g) (omega arith) (omega arith)

pub difference_small : {s t : ℕ} {f g : ℤ} → Small s f → Small t g → Small (s + t) (f -ℤ g)
difference_small {s} {t} {f} {g} a b = let e = sub_parts f g in small_of (s + t) (f -ℤ g) (omega arith) (omega arith)

pub small_abs : {s : ℕ} (f : ℤ) → Small s f → nat_abs f ≤ s
small_abs (pos n) a = a.above
small_abs (negsuc n) a = a.below

pub small_mag : {s : ℕ} (f : ℤ) → Small s f → mag f ≤ s
small_mag f a = le_trans (mag_abs f) (small_abs f a)

pub more : {s k : ℕ} {f : ℤ} → Small s f → s ≤ k → Small k f
more a h = record { above = omega arith; below = omega arith }
