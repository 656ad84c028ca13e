-- `round` as a bound: a fraction below 2^(k+prec+1) units of the format is rounded to a finite number that is off by 2^k units at most.
use mathlib.Core.Path.{◌≡◌, sym, subst}
use Prim.Native.Nat.{ℕ, zero, suc, ◌+◌, ◌-◌, ◌*◌, ◌/◌, ◌%◌, ◌^◌, ◌≤◌, ◌<◌, compare, Ordering}
use native.Mathlib.Nat.{le_trans, le_of_lt, lt_of_lt_of_le, lt_of_mul-lt-mul_right, mul-le-mul_right, mul-pos, div-add-mod', mod-lt, div-lt_iff_lt-mul}
use native.Mathlib.Omega.{arith}
use mathlib.Core.Bool.{Bool}
use lib.Dec.{ltb}
use lib.IntN.{ℤ}
use lib.Pow.{pow_pos, pow_mono}
use lib.Ieee.{Float, inf, fin, Format, prec, emax, low, size, nearest, odd, units, round}
use lib.Ieee.Digits.{size-le}
use lib.Ieee.Fits.{round_is}
use lib.Ieee.Exact.{HasValue, units_val}
use lib.Ieee.Nearest.{closest}
use lib.Ieee.Order.{drop, kept}
use lib.Ieee.Scale.{grid, overflow}
use Rattle.prelude.proofs.Compare.{Cmp, cmp}
use Rattle.prelude.proofs.Booleans.{either}

-- what holds of any rounded number: it is finite with the sign s, or the infinity
odd_ind : (C : Float → Type 0) (d : ℕ) (s : Bool) (q k l : ℕ) → ((m : ℕ) (e : ℤ) → C (fin s m e)) → C (odd d s q k l)
unfolding odd
odd_ind C d s zero k l f = f _ _
odd_ind C d s (suc q) k l f = f _ _

pub round_ind : (C : Float → Type 0) (f : Format) (s : Bool) (a c : ℕ) → C (inf s) → ((m : ℕ) (e : ℤ) → C (fin s m e)) → C (round f s a c)
round_ind C f s a c i g = rw (round_is f s a c) (go (kept (prec f) (a * 2 ^ low f) c) (drop (prec f) (a * 2 ^ low f) c))
  where
    go : (q k : ℕ) → C (units f s q k)
    go q k = unfold units in (either C (ltb (q * 2 ^ k) (2 ^ (low f + suc (emax f)))) (odd_ind C (suc (prec f)) s q k (low f) g) i)

-- twice the distance from a / b to the nearest whole number c is at most 1
record Half (c a b : ℕ) : Type 0 where
  pub over : c * b * 2 ≤ a * 2 + b
  pub under : a * 2 ≤ c * b * 2 + b

half_go : (q r b a : ℕ) (o : Ordering) → Cmp o (r * 2) b → r < b → q * b + r ≡ a → Half (nearest q o) a b
half_go q r b a Ordering.lt x l e = record { over = omega arith; under = omega arith }
half_go q r b a Ordering.eq x l e = tie (q % 2) (omega arith)
  where
    tie : (t : ℕ) → t ≤ 1 → Half (q + t) a b
    tie zero h = record { over = omega arith; under = omega arith }
    tie (suc zero) h = record { over = omega arith; under = omega arith }
    tie (suc (suc t)) h = absurd (let z : ⊥ = omega arith in z)
half_go q r b a Ordering.gt x l e = record { over = omega arith; under = omega arith }

closest_half : (a b : ℕ) → 0 < b → Half (closest a b) a b
closest_half a b B = half_go (a / b) (a % b) b a (compare (a % b * 2) b) (cmp (a % b * 2) b) (mod-lt a B) (div-add-mod' a b)

-- g is n / den but for e
pub record Close (g n den e : ℕ) : Type 0 where
  pub over : g * den ≤ n + e * den
  pub under : n ≤ g * den + e * den

regroup : (q p d n e : ℕ) → Half q n (d * p) → p ≤ e * 2 → Close (q * p) n d e
regroup q p d n e h l =
    let k : p * d ≤ e * 2 * d = mul-le-mul_right d l in
    record { over = omega arith; under = omega arith }

fewer : (z k p : ℕ) → z ≤ k + suc p → z - p ≤ suc k
fewer z k p h = omega arith

double : (k : ℕ) → 2 ^ suc k ≤ 2 ^ k * 2
double k = omega arith

module _ (f : Format) (k a den : ℕ) (D : 0 < den) (h : a * 2 ^ low f < 2 ^ (k + suc (prec f)) * den) where
  abbrev n : ℕ
  n = a * 2 ^ low f

  place : 2 ^ drop (prec f) n den ≤ 2 ^ k * 2
  place = le_trans (pow_mono (fewer (size (n / den)) k (prec f) (size-le (n / den) (k + suc (prec f)) ((div-lt_iff_lt-mul D).1 h)))) (double k)

  pub grid_close : Close (grid f a den) n den (2 ^ k)
  grid_close = let j = drop (prec f) n den in regroup (kept (prec f) n den) (2 ^ j) den n (2 ^ k) (closest_half n (den * 2 ^ j) (mul-pos D (pow_pos j))) place

  pub round_value : (s : Bool) → 2 ^ (k + suc (prec f)) + 2 ^ k < overflow f → HasValue (round f s a den) s (grid f a den) (2 ^ low f)
  round_value s l =
      subst (λ (z : Float). HasValue z s (grid f a den) (2 ^ low f)) (sym (round_is f s a den))
      (units_val f s (kept (prec f) n den) (drop (prec f) n den) (under (grid f a den) n (2 ^ (k + suc (prec f))) (2 ^ k) (overflow f) grid_close h l))
    where
      under : (g n t e o : ℕ) → Close g n den e → n < t * den → t + e < o → g < o
      under g n t e o c h l = lt_of_lt_of_le (lt_of_mul-lt-mul_right den (let x : g * den < (t + e) * den = omega arith in x)) (le_of_lt l)
