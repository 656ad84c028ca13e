-- What is written reads back: a number and a rectangle, with plus zeros for negative ones, a list of rectangles, and the value of a field.
use mathlib.Core.Path.{◌≡◌, refl, ap, sym, ◌∙◌}
use mathlib.Core.Bool.{Bool, true, false}
use mathlib.Core.List.{List, [], ◌∷◌, ◌++◌, map, flat_map, append_assoc}
use Prim.Native.Nat.{ℕ, zero, suc, ◌+◌, ◌*◌, ◌/◌, ◌%◌, ◌^◌}
use native.Mathlib.Nat.{add_assoc}
use native.Mathlib.Omega.{arith}
use borrow.Author.Tests.{eqb-true, eq-eqb}
use lib.Dec.{T, eqb, eqb→eq}
use lib.IntN.{ℤ, pos}
use lib.Ieee.{Float, nan, inf, fin, binary32, up, down, of_bits, to_bits, fits, eq}
use lib.Ieee.Back.{whole_unique}
use lib.Ieee.Bits.{of_bits-to_bits, is_true, is_false}
use lib.ListN.{length, get_or}
use lib.Seq.{get_or-append-add, take_at, drop_at}
use Rattle.prelude.proofs.Booleans.{by_test, both}
use Rattle.prelude.specs.Each.{Each}
use Rattle.prelude.specs.Lists.{tabulate}
use Rattle.float.specs.Float.{k0}
use Rattle.geometry.specs.declared.Rect.{Rect}
use Rattle.geometry.specs.Rect.{rect_is_f32}
use Rattle.wire.specs.Wire.{short_of, word_of, number_at_of, rect_at_of, rects, field_value, short_bytes, written_bits_of, number_bytes, rect_bytes, head_bytes, plus_zero, plus_zero_rect}
use Rattle.wire.proofs.Items.{length_f32, length_rect}

-- ---- plus zero for negative zero
module _ (C : Float → Type 0) (x : Float) where
  pub plus_zero_ind : (eq x k0 ≡ true → C k0) → (eq x k0 ≡ false → C x) → C (plus_zero x)
  unfolding plus_zero
  plus_zero_ind f g = by_test C (eq x k0) (λ t. f (is_true (eq x k0) t)) (λ t. g (is_false (eq x k0) t))

pub zero_size : (s : Bool) (m : ℕ) (g : ℤ) → eq (fin s m g) k0 ≡ true → m * up g ≡ 0
unfolding eq of_bits
zero_size s m g e = let v = eqb-true (m * up g * 1) (0 * 1 * down g) (both _ _ e).0 in omega arith

-- a zero that fits is one of two
pub zero_form : (s : Bool) (m : ℕ) (g : ℤ) → T (fits binary32 (fin s m g)) → m * up g ≡ 0 → fin s m g ≡ fin s 0 (pos 0)
unfolding fits
zero_form s m g f e = whole_unique binary32 (fin s m g) (fin s 0 (pos 0)) s 0 f tt (refl, omega arith) (refl, refl)

abbrev pub minus_zero : Float
minus_zero = of_bits binary32 0x8000_0000

pub zero_ind : (C : Float → Type 0) (x : Float) → T (fits binary32 x) → eq x k0 ≡ true → C minus_zero → C k0 → C x
unfolding eq of_bits
zero_ind C nan f e a b = let z : nan ≡ k0 = cc in rw z b
zero_ind C (inf s) f e a b = let z : inf s ≡ k0 = cc in rw z b
zero_ind C (fin s m g) f e a b = rw (zero_form s m g f (zero_size s m g e)) (go s)
  where
    go : (t : Bool) → C (fin t 0 (pos 0))
    go true = a
    go false = b

-- ---- a number, by its pattern
zero_pattern : (x : Float) → T (fits binary32 x) → eq x k0 ≡ true → written_bits_of x ≡ 0
unfolding of_bits written_bits_of to_bits
zero_pattern x f e = zero_ind (λ y. written_bits_of y ≡ 0) x f e refl refl

minus_zero_lem : eq minus_zero k0 ≡ true
unfolding eq of_bits
minus_zero_lem = refl

other_pattern : (x : Float) → T (fits binary32 x) → eq x k0 ≡ false → of_bits binary32 (written_bits_of x) ≡ x
unfolding written_bits_of
other_pattern x f e =
    by_test (λ n. of_bits binary32 n ≡ x) (eqb (to_bits binary32 x) 0x8000_0000)
    (λ t.
    let z : x ≡ minus_zero = sym (of_bits-to_bits binary32 x f) ∙ ap (of_bits binary32) (eqb→eq _ _ t) in
    let h : eq x k0 ≡ true = rw z minus_zero_lem in
    cc)
    (λ t. of_bits-to_bits binary32 x f)

bits_back : (x : Float) → fits binary32 x ≡ true → of_bits binary32 (written_bits_of x) ≡ plus_zero x
bits_back x f =
    let t : T (fits binary32 x) = rw f tt in
    plus_zero_ind (λ y. of_bits binary32 (written_bits_of x) ≡ y) x (λ e. ap (of_bits binary32) (zero_pattern x t e)) (other_pattern x t)

-- ---- numbers, by their bytes
word_back : (n : ℕ) → word_of (n / 2 ^ 24) (n / 2 ^ 16 % 2 ^ 8) (n / 2 ^ 8 % 2 ^ 8) (n % 2 ^ 8) ≡ n
word_back n = omega arith

pub number_back : (x : Float) (rest : List ℕ) → fits binary32 x ≡ true → number_at_of (number_bytes x ++ rest) 0 ≡ plus_zero x
unfolding number_at_of number_bytes
number_back x rest f = simp word_back (bits_back x f)

-- behind k numbers
module _ (k : ℕ) (b v : List ℕ) (h : length b ≡ 4 * k) where
  byte_later : (i : ℕ) → get_or (b ++ v) (4 * k + i) 0 ≡ get_or v i 0
  byte_later i = rw h at (get_or-append-add b v i 0)

  number_later : (i : ℕ) → number_at_of (b ++ v) (k + i) ≡ number_at_of v i
  unfolding number_at_of
  number_later i = let e : 4 * (k + i) ≡ 4 * k + 4 * i = omega arith in simp (e, add_assoc, byte_later)

pub number_next : (x : Float) (v : List ℕ) (i : ℕ) → number_at_of (number_bytes x ++ v) (suc i) ≡ number_at_of v i
number_next x v i = let e : suc i ≡ 1 + i = omega arith in rw e (number_later 1 (number_bytes x) v (length_f32 x) i)

-- ---- a rectangle
pub rect_back : (r : Rect) (rest : List ℕ) → rect_is_f32 r ≡ true → rect_at_of (rect_bytes r ++ rest) 0 ≡ plus_zero_rect r
unfolding rect_at_of rect_bytes rect_is_f32
rect_back r rest e =
    let a = both _ _ e in
    let b = both _ _ a.1 in
    let c = both _ _ b.1 in
    simp append_assoc (rw (
      number_back r.x _ a.0,
      number_next r.x _ 0,
      number_back r.y _ b.0,
      number_next r.x _ 1,
      number_next r.y _ 0,
      number_back r.w _ c.0,
      number_next r.x _ 2,
      number_next r.y _ 1,
      number_next r.w _ 0,
      number_back r.h _ c.1,
    ))

-- ---- the rectangles of a value
module _ (b v : List ℕ) (h : length b ≡ 16) where
  rect_later : (n : ℕ) → rect_at_of (b ++ v) (suc n) ≡ rect_at_of v n
  unfolding rect_at_of
  rect_later n = let e : 4 * suc n ≡ 4 + 4 * n = omega arith in simp (e, add_assoc, number_later 4 b v h)

  rects_next : (n : ℕ) → rects (b ++ v) (suc n) ≡ rect_at_of (b ++ v) 0 ∷ rects v n
  unfolding tabulate
  rects_next zero = refl
  rects_next (suc n) = ap (λ l. l ++ (rect_at_of (b ++ v) (suc n) ∷ [])) (rects_next n) ∙ rw (rect_later n)

pub rects_back : (l : List Rect) → Each (λ r. rect_is_f32 r ≡ true) l → rects (flat_map rect_bytes l) (length l) ≡ map plus_zero_rect l
unfolding flat_map tabulate
rects_back [] e = refl
rects_back (r ∷ l) e = rects_next (rect_bytes r) (flat_map rect_bytes l) (length_rect r) (length l) ∙ rw (rect_back r (flat_map rect_bytes l) e.0, rects_back l e.1)

-- ---- the fields
pub short_back : (n : ℕ) → short_of (n / 2 ^ 8) (n % 2 ^ 8) ≡ n
short_back n = omega arith

module _ (n tag : ℕ) (v rest : List ℕ) where
  pub value_here : field_value (suc n) tag (head_bytes tag (length v) ++ (v ++ rest)) ≡ v
  unfolding field_value head_bytes short_bytes
  value_here = rw (eq-eqb tag tag refl, short_back, take_at v rest (length v) refl)

  pub value_later : (other : ℕ) → eqb other tag ≡ false → field_value (suc n) tag (head_bytes other (length v) ++ (v ++ rest)) ≡ field_value n tag rest
  unfolding field_value head_bytes short_bytes
  value_later other e = rw (e, short_back, drop_at v rest (length v) refl)
