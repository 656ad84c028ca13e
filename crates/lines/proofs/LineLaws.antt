-- Laws of a line: the recursion of the digits, the sizes of numbers in range, the lengths of texts.
use mathlib.Core.Path.{◌≡◌, refl, ap, ◌∙◌}
use mathlib.Core.Bool.{Bool, true, false, cond}
use mathlib.Core.List.{List, [], ◌∷◌, ◌++◌}
use Prim.Native.Nat.{ℕ, zero, suc, ◌+◌, ◌/◌, ◌%◌, ◌^◌, ◌≤◌, ◌<◌, zero-le}
use native.Mathlib.Nat.{pow-suc, le_trans}
use native.Mathlib.Omega.{arith}
use borrow.Author.Tests.{lt-ltb, le-ltb, ltb-false}
use lib.Dec.{ltb, lit≤}
use lib.Ieee.{Float}
use lib.IntN.{ℤ, pos, negsuc, ◌+ℤ◌}
use lib.ListN.{length, length-append}
use Rattle.float.specs.Float.{k0}
use Rattle.geometry.specs.declared.Rect.{Rect}
use Rattle.numerics.proofs.Bounds.{most_more, zero_most}
use Rattle.numerics.specs.Value.{value, limit, AtMost}
use Rattle.tenths.specs.Tenths.{tenths_of, span_of}
use Rattle.tenths.proofs.Floors.{Small, difference_small, small_abs, more}
use Rattle.tenths.proofs.TenthsLaws.{edge_small, edge_alone}
use Rattle.lines.specs.Line.{Line, line_of, digits_in, digits_of, number_text, field_text, line_text, head_text, most, Printable, Numbers, SixDigits}

-- ---- digits
-- the steps left over change nothing
enough : (k j n : ℕ) → n < k → n < j → digits_in k n ≡ digits_in j n
unfolding digits_in
enough zero j n h g = absurd (let z : ⊥ = omega arith in z)
enough (suc k) zero n h g = absurd (let z : ⊥ = omega arith in z)
enough (suc k) (suc j) n h g = go (enough k j (n / 10)) (ltb n 10) refl
  where
    go : (n / 10 < k → n / 10 < j → digits_in k (n / 10) ≡ digits_in j (n / 10)) → (b : Bool) → ltb n 10 ≡ b
        → cond b ((48 + n) ∷ []) (digits_in k (n / 10) ++ ((48 + n % 10) ∷ [])) ≡ cond b ((48 + n) ∷ []) (digits_in j (n / 10) ++ ((48 + n % 10) ∷ []))
    go f true e = refl
    go f false e = let l = ltb-false n 10 e in rw (f (omega arith) (omega arith))

pub digits_few : (n : ℕ) → n < 10 → digits_of n ≡ (48 + n) ∷ []
unfolding digits_of digits_in
digits_few n h = rw (lt-ltb n 10)

pub digits_more : (n : ℕ) → 10 ≤ n → digits_of n ≡ digits_of (n / 10) ++ ((48 + n % 10) ∷ [])
unfolding digits_of digits_in
digits_more n h = let e = enough n (suc (n / 10)) (n / 10) (omega arith) (omega arith) in rw (le-ltb n 10 h, e)

pub length_more : (n : ℕ) → 10 ≤ n → length (digits_of n) ≡ length (digits_of (n / 10)) + 1
length_more n h = ap length (digits_more n h) ∙ length-append (digits_of (n / 10)) ((48 + n % 10) ∷ [])

length_digits_in : (m k n : ℕ) → n < 10 ^ suc k → length (digits_in m n) ≤ suc k
unfolding digits_in
length_digits_in zero k n h = zero-le
length_digits_in (suc m) k n h = go (λ j. length_digits_in m j (n / 10)) k h (ltb n 10) refl
  where
    go : ((j : ℕ) → n / 10 < 10 ^ suc j → length (digits_in m (n / 10)) ≤ suc j) → (k : ℕ) → n < 10 ^ suc k → (b : Bool) → ltb n 10 ≡ b
        → length (cond b ((48 + n) ∷ []) (digits_in m (n / 10) ++ ((48 + n % 10) ∷ []))) ≤ suc k
    go f k h true e = omega arith
    go f zero h false e = absurd (let z : ⊥ = omega (arith, ltb-false n 10 e) in z)
    go f (suc k) h false e =
        omega (arith, length-append (digits_in m (n / 10)) ((48 + n % 10) ∷ []), f k (omega (arith, pow-suc 10 (suc k))))

pub length_digits : (k n : ℕ) → n < 10 ^ suc k → length (digits_of n) ≤ suc k
unfolding digits_of
length_digits k n h = length_digits_in (suc n) k n h

-- ---- numbers in range
-- twice `most`, in tenths
abbrev pub most_edge : ℕ
most_edge = 451222

pub edge_within : (x w : Float) → AtMost x most → AtMost w most → Small most_edge (tenths_of (value x +ℤ value w))
edge_within x w a b = edge_small x w most_edge a b (lit≤ tt)

pub in_limit : {x : Float} → AtMost x most → AtMost x limit
in_limit a = most_more a limit tt

pub zero_in_range : AtMost k0 most
zero_in_range = most_more zero_most most tt

corner_within : (x : Float) → AtMost x most → Small most_edge (tenths_of (value x))
corner_within x a = rw edge_alone at (edge_within x k0 a zero_in_range)

six_digits : {z : ℤ} → Small (most_edge + most_edge) z → SixDigits z
six_digits {z} s = omega (arith, small_abs z s)

pub line_numbers : (name : List ℕ) (r : Rect) → Printable r → Numbers SixDigits (line_of name r)
unfolding line_of span_of
line_numbers name r p =
    let x = corner_within r.x p.x in
    let y = corner_within r.y p.y in
    record {
      x = six_digits (more x (lit≤ tt));
      y = six_digits (more y (lit≤ tt));
      w = six_digits (difference_small (edge_within r.x r.w p.x p.w) x);
      h = six_digits (difference_small (edge_within r.y r.h p.y p.h) y);
    }

-- ---- lengths
-- six digits and a minus
pub length_number : (z : ℤ) → SixDigits z → length (number_text z) ≤ 7
unfolding number_text
length_number (pos n) h = le_trans (length_digits 5 n h) (lit≤ tt)
length_number (negsuc n) h = omega (arith, length_digits 5 (suc n) h)

pub length_head : (word : List ℕ) (n : ℕ) → length (head_text word n) ≡ length word + (length (digits_of n) + 1)
unfolding head_text
length_head word n = simp length-append

pub length_parts : (l : Line)
    → length (line_text l) ≡ length l.name + (length (field_text l.x) + (length (field_text l.y) + (length (field_text l.w) + (length (field_text l.h) + 1))))
unfolding line_text
length_parts l = simp length-append

pub length_line : (l : Line) → Numbers SixDigits l → length (line_text l) ≤ length l.name + 33
unfolding field_text
length_line l p =
    rw (length_parts l) (omega (arith, length_number l.x p.x, length_number l.y p.y, length_number l.w p.w, length_number l.h p.h))
