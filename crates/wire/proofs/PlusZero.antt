-- Plus zero for negative zero: what sees no sign of zero stays the same, and equal numbers become the same value.
use mathlib.Core.Path.{◌≡◌, refl, ap, sym, ◌∙◌}
use mathlib.Core.Bool.{Bool, true, false, ◌&&◌, ◌||◌, beq}
use mathlib.Core.List.{List, [], ◌∷◌, map, flat_map}
use Prim.Native.Nat.{ℕ, zero, suc, ◌*◌, ◌/◌, ◌^◌, ◌<◌}
use native.Mathlib.Nat.{mul_right_comm, zero-mul, suc-mul, eq_of_mul-eq-mul_right, div-eq_of_lt}
use native.Mathlib.Omega.{arith}
use borrow.Author.Tests.{eqb-true, ne_eqb}
use lib.Dec.{T, eqb}
use lib.IntN.{ℤ, pos}
use lib.Ieee.{Float, nan, inf, fin, binary32, low, up, down, of_bits, to_bits, fits, eq}
use lib.Ieee.Bits.{of_bits-to_bits}
use lib.Ieee.Fits.{down_pos}
use lib.Ieee.Nearest.{div_same}
use Rattle.prelude.proofs.Booleans.{both}
use Rattle.float.specs.Float.{k0}
use Rattle.geometry.specs.declared.Rect.{Rect}
use Rattle.wire.specs.Wire.{written_bits_of, number_bytes, rect_bytes, plus_zero, plus_zero_rect}
use Rattle.wire.proofs.ReadBack.{plus_zero_ind, zero_size, zero_form, minus_zero, zero_ind}

-- what is the same for both zeros
pub plus_zero_same : {B : Type 0} (f : Float → B) → f k0 ≡ f minus_zero → (x : Float) → fits binary32 x ≡ true → f (plus_zero x) ≡ f x
plus_zero_same f e x p =
    let t : T (fits binary32 x) = rw p tt in
    plus_zero_ind (λ y. f y ≡ f x) x (λ z. zero_ind (λ y. f k0 ≡ f y) x t z e refl) (λ _. refl)

pub plus_zero_f32 : (x : Float) → fits binary32 x ≡ true → fits binary32 (plus_zero x) ≡ true
unfolding fits of_bits
plus_zero_f32 x p = plus_zero_same (fits binary32) refl x p ∙ p

pub plus_zero_twice : (x : Float) → fits binary32 x ≡ true → plus_zero (plus_zero x) ≡ plus_zero x
unfolding plus_zero eq of_bits
plus_zero_twice x p = plus_zero_same plus_zero refl x p

-- what is the same for every number that is zero, however it is written
pub zeros_same : {B : Type 0} (f : Float → B) → ((s : Bool) (m : ℕ) (g : ℤ) → m * up g ≡ 0 → f k0 ≡ f (fin s m g)) → (x : Float) → f (plus_zero x) ≡ f x
unfolding eq of_bits
zeros_same f h x = plus_zero_ind (λ y. f y ≡ f x) x (go x) (λ _. refl)
  where
    go : (x : Float) → eq x k0 ≡ true → f k0 ≡ f x
    go nan e = cc
    go (inf s) e = cc
    go (fin s m g) e = h s m g (zero_size s m g e)

zero_bits : (s : Bool) (m : ℕ) (g : ℤ) → m * up g ≡ 0 → written_bits_of k0 ≡ written_bits_of (fin s m g)
unfolding written_bits_of to_bits of_bits
zero_bits s m g h =
    let none : m * up g * 2 ^ low binary32 / down g ≡ 0 = rw (h, zero-mul (2 ^ low binary32)) (div-eq_of_lt (down_pos g)) in
    rw none (go s)
  where
    go : (s : Bool) → 0 ≡ written_bits_of (fin s 0 (pos 0))
    go true = refl
    go false = refl

pub number_same : (x : Float) → number_bytes (plus_zero x) ≡ number_bytes x
unfolding number_bytes
number_same x = rw (zeros_same written_bits_of zero_bits x)

pub rect_same : (r : Rect) → rect_bytes (plus_zero_rect r) ≡ rect_bytes r
unfolding rect_bytes
rect_same r = rw (number_same r.x, number_same r.y, number_same r.w, number_same r.h)

pub rects_same : (l : List Rect) → flat_map rect_bytes (map plus_zero_rect l) ≡ flat_map rect_bytes l
unfolding flat_map
rects_same [] = refl
rects_same (r ∷ l) = rw (rect_same r, rects_same l)

-- no test for equality sees how a zero is written
zero_level : (x k : ℕ) → 0 < k → eqb 0 x ≡ eqb 0 (x * k)
zero_level zero k h = rw (zero-mul k)
zero_level (suc x) k h = rw (ne_eqb 0 (suc x) (λ e. let z : ⊥ = omega arith in z), ne_eqb 0 (suc x * k) (λ e. let z : ⊥ = omega (arith, suc-mul x k) in z))

same_test : (p q a b : Bool) → p ≡ q → (p && (a || true)) ≡ (q && (b || true))
same_test p q true true e = ap (λ r. r && true) e
same_test p q true false e = ap (λ r. r && true) e
same_test p q false true e = ap (λ r. r && true) e
same_test p q false false e = ap (λ r. r && true) e

pub eq_same : (x y : Float) → eq (plus_zero x) y ≡ eq x y
unfolding eq of_bits
eq_same x y = zeros_same (λ z. eq z y) (λ s m g h. go s m g h y) x
  where
    go : (s : Bool) (m : ℕ) (g : ℤ) → m * up g ≡ 0 → (y : Float) → eq k0 y ≡ eq (fin s m g) y
    go s m g h nan = refl
    go s m g h (inf t) = refl
    go s m g h (fin t n d) =
        let size = n * up d in
        let same = sym (zero_level size 1 (omega arith)) ∙ zero_level size (down g) (down_pos g) in
        rw (h, zero-mul (down d)) (same_test (eqb 0 (size * 1)) (eqb 0 (size * down g)) (beq false t) (beq s t) same)

-- ---- equal numbers

-- of one sign: they have one pattern
same_size : (s : Bool) (m n : ℕ) (e d : ℤ) → T (fits binary32 (fin s m e)) → T (fits binary32 (fin s n d)) → m * up e * down d ≡ n * up d * down e → fin s m e ≡ fin s n d
unfolding to_bits
same_size s m n e d f g h = sym (of_bits-to_bits binary32 (fin s m e) f) ∙ ap (of_bits binary32) same ∙ of_bits-to_bits binary32 (fin s n d) g
  where
    units : m * up e * 2 ^ low binary32 / down e ≡ n * up d * 2 ^ low binary32 / down d
    units =
        div_same (m * up e * 2 ^ low binary32) (down e) (n * up d * 2 ^ low binary32) (down d) (down_pos e) (down_pos d)
        (mul_right_comm (m * up e) (2 ^ low binary32) (down d) ∙ ap (λ k. k * 2 ^ low binary32) h ∙ mul_right_comm (n * up d) (down e) (2 ^ low binary32))

    same : to_bits binary32 (fin s m e) ≡ to_bits binary32 (fin s n d)
    same = rw units

-- a number of no size
plus_zero_none : (s : Bool) (m : ℕ) (g : ℤ) (k : ℕ) → T (fits binary32 (fin s m g)) → 0 < k → m * up g * k ≡ 0 → plus_zero (fin s m g) ≡ k0
unfolding plus_zero eq of_bits
plus_zero_none s m g k f h e = ap plus_zero (zero_form s m g f (eq_of_mul-eq-mul_right k h (m * up g) 0 (e ∙ sym (zero-mul k)))) ∙ go s
  where
    go : (t : Bool) → plus_zero (fin t 0 (pos 0)) ≡ k0
    go true = refl
    go false = refl

pub same_number : (x y : Float) → T (fits binary32 x) → T (fits binary32 y) → eq x y ≡ true → plus_zero x ≡ plus_zero y
unfolding eq
same_number nan y f g e = cc
same_number (inf s) nan f g e = cc
same_number (inf true) (inf true) f g e = refl
same_number (inf true) (inf false) f g e = cc
same_number (inf false) (inf true) f g e = cc
same_number (inf false) (inf false) f g e = refl
same_number (inf s) (fin t n d) f g e = cc
same_number (fin s m c) nan f g e = cc
same_number (fin s m c) (inf t) f g e = cc
same_number (fin s m c) (fin t n d) f g e = let b = both _ _ e in go s t f g (eqb-true _ _ b.0) b.1
  where
    zeros : (s t : Bool) → T (fits binary32 (fin s m c)) → T (fits binary32 (fin t n d)) → m * up c * down d ≡ 0 → m * up c * down d ≡ n * up d * down c
        → plus_zero (fin s m c) ≡ plus_zero (fin t n d)
    zeros s t f g z h = plus_zero_none s m c (down d) f (down_pos d) z ∙ sym (plus_zero_none t n d (down c) g (down_pos c) (sym h ∙ z))

    go : (s t : Bool) → T (fits binary32 (fin s m c)) → T (fits binary32 (fin t n d)) → m * up c * down d ≡ n * up d * down c
        → (beq s t || eqb (m * up c * down d) 0) ≡ true → plus_zero (fin s m c) ≡ plus_zero (fin t n d)
    go true true f g h z = ap plus_zero (same_size true m n c d f g h)
    go false false f g h z = ap plus_zero (same_size false m n c d f g h)
    go true false f g h z = zeros true false f g (eqb-true _ _ z) h
    go false true f g h z = zeros false true f g (eqb-true _ _ z) h
