-- The source's literals: `lit n` is the range of the whole number n, and iN that of another literal N, by computation; fN says that N is a fraction, for products
-- and quotients by it. And constants made of them.
use mathlib.Core.Path.{◌≡◌, refl, sym, ap, ◌∙◌}
use mathlib.Core.Bool.{Bool, true, false, ◌&&◌, cond}
use Prim.Native.Nat.{ℕ, zero, suc, ◌+◌, ◌-◌, ◌*◌, ◌/◌, ◌%◌, ◌^◌, ◌≤◌, ◌<◌}
use native.Mathlib.Nat.{mul_assoc, mul_comm, mul-add, add_comm, add-zero, zero-add, le_of_eq, mul-le-mul_right, zero-mul}
use native.Mathlib.Omega.{arith}
use borrow.Author.Tests.{lt-leb}
use lib.Dec.{T, ltb, leb, leb→le, ltb→lt, lit≤}
use lib.Pow.{pow-add}
use lib.Ieee.{Float, binary32, of_bits, add, mul, div}
use lib.Ieee.Exact.{HasValue}
use Rattle.prelude.proofs.Booleans.{and_three}
use Rattle.float.proofs.Patterns.{of_bits_is, fields_normal}
use Rattle.float.specs.Float.{◌⊕◌, ◌⊗◌, ◌⊘◌, k0_01, k0_055, k0_25, k0_4, k0_5, k0_75, k1, k1_4, k2, k3, k4, k52, k272, k480, √2}
use Rattle.numerics.specs.Value.{magnitude, pos_part, neg_part, eps, limit, AtMost, Fraction, P, N, E}
use Rattle.numerics.specs.Range.{In, at}
use Rattle.numerics.proofs.Operations.{value_is}
use Rattle.numerics.proofs.Ranges.{literal, fraction, range_most}

-- ---- whole numbers: `lit n` is the range of the literal n

-- how many binary digits n has, of at most k
abbrev digits : ℕ → ℕ → ℕ
digits zero n = 0
digits (suc k) n = cond (ltb n 1) 0 (suc (digits k (n / 2)))

-- n, of d digits, as an f32: its significand, whether that has 24 digits, and the bit pattern
abbrev significand : ℕ → ℕ → ℕ
significand n d = n * 2 ^ (24 - d)

abbrev normal : ℕ → ℕ → Bool
normal n d = ltb d 24 && (leb 0x80_0000 (significand n d) && ltb (significand n d) 0x100_0000)

abbrev pattern : ℕ → ℕ → ℕ
pattern n d = (126 + d) * 0x80_0000 + (significand n d - 0x80_0000)

-- the f32 n, or 0 where n is 0 or not below 2^14
abbrev known : ℕ → Bool
known n = normal n (digits 14 n)

abbrev number : ℕ → Float
number n = of_bits binary32 (cond (known n) (pattern n (digits 14 n)) 0)

parts : (x t : ℕ) → x < 255 → t < 0x80_0000 → (leb 0x8000_0000 (x * 0x80_0000 + t) ≡ false) × ((x * 0x80_0000 + t) % 0x8000_0000 / 0x80_0000 ≡ x) × ((x * 0x80_0000 + t) % 0x80_0000 ≡ t)
parts x t h k = (lt-leb 0x8000_0000 (x * 0x80_0000 + t) (omega arith), omega arith, omega arith)

has_value : (n d : ℕ) → T (normal n d) → HasValue (of_bits binary32 (pattern n d)) false (n * 2 ^ 149) (2 ^ 149)
has_value n d t =
    let r = and_three (ltb d 24) (leb 0x80_0000 (significand n d)) (ltb (significand n d) 0x100_0000) t in
    let few = ltb→lt d 24 r.0 in
    let least = leb→le 0x80_0000 (significand n d) r.1 in
    let most = ltb→lt (significand n d) 0x100_0000 r.2 in
    let p = parts (126 + d) (significand n d - 0x80_0000) (omega arith) (omega arith) in
    let x : 126 + d ≡ suc (125 + d) = omega arith in
    let e : 24 - d + (125 + d) ≡ 149 = omega arith in
    let s : 0x80_0000 + (significand n d - 0x80_0000) ≡ significand n d = omega arith in
    let v : (0x80_0000 + (significand n d - 0x80_0000)) * 2 ^ (125 + d) ≡ n * 2 ^ 149 = rw s (mul_assoc n _ _ ∙ rw (← pow-add, e)) in
    rw (of_bits_is binary32, p.0, p.1, p.2, x, ← v) (fields_normal binary32 false (125 + d) (significand n d - 0x80_0000) (omega arith))

-- `omega` takes no number of more than 38 digits, so the powers are variables here
scaled : (e n : ℕ) → e * (limit + 256 * n) ≡ n * (e * 256) + e * limit
scaled e n = rw (mul-add, ← mul_assoc e 256 n, mul_comm (e * 256) n) (add_comm _ _)

whole_in : (x : Float) (n : ℕ) → HasValue x false (n * 2 ^ 149) (2 ^ 149) → In x (at n) (at n)
unfolding pos_part neg_part eps
whole_in x n h =
    let v = value_is x false (n * 2 ^ 149) h in
    let e = scaled (2 ^ 141) n in
    record { whole = v.0; lo = rw (v.1, v.2, add-zero) (le_of_eq e); hi = rw (v.1, v.2, zero-add) (le_of_eq (sym e)) }

pub lit : (n : ℕ) → In (number n) (at (cond (known n) n 0)) (at (cond (known n) n 0))
lit n = go n (digits 14 n) (known n) (has_value n (digits 14 n))
  where
    go : (n d : ℕ) (b : Bool) → (T b → HasValue (of_bits binary32 (pattern n d)) false (n * 2 ^ 149) (2 ^ 149)) → In (of_bits binary32 (cond b (pattern n d) 0)) (at (cond b n 0)) (at (cond b n 0))
    go n d true h = whole_in _ n (h tt)
    go n d false h = unfold of_bits magnitude pos_part neg_part eps in (literal refl tt tt)

-- ---- other literals
pub i0_01 : In k0_01 (limit + 2) (limit + 3)
i0_01 = unfold of_bits magnitude pos_part neg_part eps in (literal refl tt tt)

pub i0_25 : In k0_25 (limit + 64) (limit + 64)
i0_25 = unfold of_bits magnitude pos_part neg_part eps in (literal refl tt tt)

pub i0_5 : In k0_5 (limit + 128) (limit + 128)
i0_5 = unfold of_bits magnitude pos_part neg_part eps in (literal refl tt tt)

pub i1_4 : In k1_4 (limit + 358) (limit + 359)
i1_4 = unfold of_bits magnitude pos_part neg_part eps in (literal refl tt tt)

-- ---- constants
pub i4√2 : In (k4 ⊗ √2) (limit + 1448) (limit + 1449)
i4√2 = unfold of_bits mul magnitude pos_part neg_part eps in (literal refl tt tt)

-- ---- fractions
pub f0_01 : Fraction k0_01 0x51eb85 0x20000000
f0_01 = unfold of_bits magnitude in (fraction refl refl refl tt tt)

pub f0_055 : Fraction k0_055 0x70a3d7 0x8000000
f0_055 = unfold of_bits magnitude in (fraction refl refl refl tt tt)

pub f0_4 : Fraction k0_4 0xcccccd 0x2000000
f0_4 = unfold of_bits magnitude in (fraction refl refl refl tt tt)

pub f0_75 : Fraction k0_75 3 4
f0_75 = unfold of_bits magnitude in (fraction refl refl refl tt tt)

pub f1 : Fraction k1 1 1
f1 = unfold of_bits magnitude in (fraction refl refl refl tt tt)

pub f2 : Fraction k2 2 1
f2 = unfold of_bits magnitude in (fraction refl refl refl tt tt)

pub f3 : Fraction k3 3 1
f3 = unfold of_bits magnitude in (fraction refl refl refl tt tt)

pub f4 : Fraction k4 4 1
f4 = unfold of_bits magnitude in (fraction refl refl refl tt tt)

pub f52 : Fraction k52 52 1
f52 = unfold of_bits magnitude in (fraction refl refl refl tt tt)

pub f1√2 : Fraction (k1 ⊕ √2) 0x4d413d 0x200000
f1√2 = unfold of_bits add magnitude in (fraction refl refl refl tt tt)

pub f4/3 : Fraction (k4 ⊘ k3) 0xaaaaab 0x800000
f4/3 = unfold of_bits div magnitude in (fraction refl refl refl tt tt)

pub f480/272 : Fraction (k480 ⊘ k272) 0x70f0f1 0x400000
f480/272 = unfold of_bits div magnitude in (fraction refl refl refl tt tt)

-- ---- the numbers of psp's shape, for `scaled_in`
pub psp_wide : magnitude k480 ≤ 2 * magnitude k272
unfolding of_bits magnitude
psp_wide = lit≤ tt

pub psp_high : magnitude k272 ≤ 1 * magnitude k480
unfolding of_bits magnitude
psp_high = lit≤ tt

-- ---- 0.01 is between 2 and 3 of 1/256
pub hundredth_most : AtMost k0_01 3
hundredth_most = range_most 3 i0_01 tt

pub record Hundredth (d : ℕ) : Type 0 where
  pub low : E d * 2 ≤ P d k0_01
  pub high : P d k0_01 ≤ E d * 3
  pub none : N d k0_01 ≡ 0

pub hundredth : (d : ℕ) → Hundredth d
unfolding P N E
hundredth d =
    let a = mul-le-mul_right d low in
    let b = mul-le-mul_right d high in
    record { low = omega arith; high = omega arith; none = ap (λ (z : ℕ). z * d) none ∙ zero-mul d }
  where
    low : eps * 2 ≤ pos_part k0_01
    low = unfold of_bits magnitude pos_part eps in (lit≤ tt)

    high : pos_part k0_01 ≤ eps * 3
    high = unfold of_bits magnitude pos_part eps in (lit≤ tt)

    none : neg_part k0_01 ≡ 0
    none = unfold of_bits neg_part in refl
