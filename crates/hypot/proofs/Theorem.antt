-- `nearest_root n` is the f32 nearest the root of n, ties to even, and no other is.
use mathlib.Core.Path.{◌≡◌, refl, sym, ap, ◌∙◌}
use mathlib.Core.Logic.{◌⊎◌, inl, inr}
use Prim.Native.Nat.{ℕ, ◌+◌, ◌-◌, ◌*◌, ◌/◌, ◌^◌, ◌≤◌, ◌<◌, compare}
use native.Mathlib.Nat.{le_trans, le_of_eq, lt_of_lt_of_le, le-div_iff_mul-le, div-mul-le_self, lt-div-mul-add}
use native.Mathlib.Omega.{arith}
use mathlib.Core.Bool.{false}
use lib.Pow.{pow_pos, pow-add}
use lib.Ieee.{binary32, size, nearest, units}
use lib.Ieee.Digits.{size_reaches}
use lib.Ieee.Fits.{kept-lt, nearest-le}
use lib.Ieee.Nearest.{nearest-ge}
use Rattle.prelude.proofs.Compare.{cmp}
use Rattle.hypot.specs.Hypot.{isqrt, nearest_root}
use Rattle.hypot.specs.Pattern.{f32_at}
use Rattle.hypot.specs.Nearest.{Nearest, RootIsNearest}
use Rattle.hypot.proofs.Order.{lt_or_ge, square_le}
use Rattle.hypot.proofs.Isqrt.{is_root}
use Rattle.hypot.proofs.Rounding.{nearest_digits, unique}
use Rattle.hypot.proofs.Floats.{units_at}

-- the digits kept of r, and those dropped
leads : (r : ℕ) → (size r - 24 ≡ 0) ⊎ (0x80_0000 ≤ r / 2 ^ (size r - 24))
leads r = elim (lt_or_ge 24 (size r)) [
  | inl g ↦
      let k = size r - 24 in
      let a : 0x80_0000 * 2 ^ k ≤ r = le_trans (le_of_eq (sym (pow-add 2 23 k))) (size_reaches r (23 + k) (omega arith)) in
      inr ((le-div_iff_mul-le (pow_pos k)).1 a)
  | inr g ↦ inl (omega arith)
]

opened : (n : ℕ) → nearest_root n ≡ (let k = size (isqrt n) - 24 in let q = isqrt n / 2 ^ k in units binary32 false (nearest q (compare (4 * n) ((2 * q + 1) * 2 ^ k * ((2 * q + 1) * 2 ^ k)))) k)
unfolding nearest_root
opened n = refl

pub root_is_nearest : (n : ℕ) → RootIsNearest n
root_is_nearest n =
    let r = isqrt n in
    let k = size r - 24 in
    let q = r / 2 ^ k in
    let h = (2 * q + 1) * 2 ^ k in
    let o = compare (4 * n) (h * h) in
    let small : q < 0x100_0000 = kept-lt 24 r in
    let low : q * 2 ^ k * (q * 2 ^ k) ≤ n = le_trans (square_le (div-mul-le_self r (2 ^ k))) (is_root n).0 in
    let high : n < (q + 1) * 2 ^ k * ((q + 1) * 2 ^ k) = lt_of_lt_of_le (is_root n).1 (square_le (omega (arith, lt-div-mul-add {a = r} (pow_pos k)))) in
    let near : Nearest n (k * 0x80_0000 + nearest q o) = nearest_digits k q small (leads r) n o low high (cmp (4 * n) (h * h)) in
    record {
      r = k * 0x80_0000 + nearest q o;
      is = near;
      only = λ s a. unique n s (k * 0x80_0000 + nearest q o) a near;
      root = opened n ∙ units_at k (nearest q o) (le_trans (nearest-le q o) small) (elim (leads r) [ inl z ↦ inl z | inr g ↦ inr (le_trans g (nearest-ge q o)) ]);
    }

pub nearest_is : (n r : ℕ) → Nearest n r → f32_at r ≡ nearest_root n
nearest_is n r a = let t = root_is_nearest n in ap f32_at (t.only r a) ∙ sym t.root
