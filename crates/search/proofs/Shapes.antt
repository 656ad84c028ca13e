-- The two shapes of a picture, the sizes of all numbers in the search, in 256ths, and what a product or quotient by the f32 of a shape does.
use mathlib.Core.Path.{◌≡◌, refl, ap}
use Prim.Native.Nat.{ℕ, ◌+◌, ◌-◌, ◌*◌, ◌/◌, ◌≤◌, ◌<◌}
use native.Mathlib.Nat.{mul-le-mul_left, mul-le-mul_right, le_of_mul-le-mul_right, mul-pos}
use native.Mathlib.Omega.{arith}
use lib.Dec.{T, ltb, le→leb, lt→ltb, lit≤}
use lib.Ieee.{Float, eq, div, of_bits}
use Rattle.float.specs.Float.{◌⊗◌, ◌⊘◌, k3, k4, k272, k480}
use Rattle.numerics.specs.Value.{limit, AtMost, Fraction, P, N, E, Le}
use Rattle.numerics.specs.Rects.{max_corner, max_side, max_area}
use Rattle.numerics.proofs.Bounds.{mul_law, div_law, mul_most, div_most}
use Rattle.numerics.proofs.Literals.{f4/3, f480/272}

-- an obstacle's corner in the area's frame, its far edges, the way from an edge to a corner, and the width of a picture
abbrev pub corner : ℕ
corner = max_corner + max_area + 1

abbrev pub edge : ℕ
edge = corner + max_side + 1

abbrev pub way : ℕ
way = corner + edge + 1

abbrev pub width : ℕ
width = 31300000

-- the left end of a centred picture
abbrev pub left_end : ℕ
left_end = (max_area + width) / 2 + 2

-- p to q is the exact shape, and a the f32 that stands for it: a fraction from 1 to 2, and p / q at least
pub record Shape (a : Float) (p q : ℕ) : Type 0 where
  pub num : ℕ
  pub den : ℕ
  pub is : Fraction a num den
  pub least : den * p ≤ num * q
  pub half : p ≤ q * 2
  pub some : 0 < q
  pub one : den ≤ num
  pub two : num ≤ den * 2
  pub room : way * num + den ≤ width * den
  pub same : T (eq a (k4 ⊘ k3)) → a ≡ k4 ⊘ k3

pub standard_shape : Shape (k4 ⊘ k3) 4 3
standard_shape = record { num = 0xaaaaab; den = 0x800000; is = f4/3; least = lit≤ tt; half = lit≤ tt; some = lit≤ tt; one = lit≤ tt; two = lit≤ tt; room = lit≤ tt; same = λ t. refl }

pub psp_shape : Shape (k480 ⊘ k272) 480 272
psp_shape = record { num = 0x70f0f1; den = 0x400000; is = f480/272; least = lit≤ tt; half = lit≤ tt; some = lit≤ tt; one = lit≤ tt; two = lit≤ tt; room = lit≤ tt; same = λ t. absurd (unfold eq div of_bits in t) }

-- ---- the laws over variables; x, r, w, g are values, e is 1/256
thin_go : (W H e p q : ℕ) → 0 < q → p ≤ q * 2 → W * q ≡ H * p → H ≤ e * 2 → W ≤ e * 4
thin_go W H e p q Q c s h =
    let k = mul-le-mul_left H c in
    let l = mul-le-mul_right (q * 2) h in
    let z : W * q ≤ e * 4 * q = omega arith in
    le_of_mul-le-mul_right z Q

grows_go : (W H r r' x x' e A B p q : ℕ) → 0 < B → 0 < q → B * p ≤ A * q → A ≤ B * 2 → W * q ≡ H * p → H + x' ≤ x + e * 4 → r' * B + x * A ≤ r * B + x' * A + e * B → W + r' ≤ r + e * 9
grows_go W H r r' x x' e A B p q D Q c1 c3 s h l =
    let k1 = mul-le-mul_left H c1 in
    let k2 = mul-le-mul_right (A * q) h in
    let k3 = mul-le-mul_left (e * 4 * q) c3 in
    let k4 = mul-le-mul_right q l in
    let k5 = ap (λ (z : ℕ). z * B) s in
    let z : (W + r') * (B * q) ≤ (r + e * 9) * (B * q) = omega arith in
    le_of_mul-le-mul_right z (mul-pos D Q)

stays_go : (g g' w w' r r' x x' e A B : ℕ) → 0 < A → B ≤ A → w + r' ≤ r + w' → r * B + x' * A ≤ r' * B + x * A + e * B → g * A + w' * B ≤ g' * A + w * B + e * A → g + x' ≤ x + g' + e * 2
stays_go g g' w w' r r' x x' e A B D c a b l =
    let k1 = mul-le-mul_right B a in
    let k2 = mul-le-mul_left e c in
    let z : (g + x') * A ≤ (x + g' + e * 2) * A = omega arith in
    le_of_mul-le-mul_right z D

falls_go : (g g' w w' e u A B : ℕ) → 0 < A → B ≤ A → w' ≤ w + u → g' * A + w * B ≤ g * A + w' * B + e * A → g' ≤ g + e + u
falls_go g g' w w' e u A B D c a l =
    let k = mul-le-mul_right B a in
    let m = mul-le-mul_left u c in
    let z : g' * A ≤ (g + e + u) * A = omega arith in
    le_of_mul-le-mul_right z D

module _ {a : Float} {p q : ℕ} (S : Shape a p q) where
  abbrev A : ℕ
  A = S.num

  abbrev B : ℕ
  B = S.den

  mul_room : T (ltb (way * A) (limit * B))
  mul_room = lt→ltb (way * A) (limit * B) (let k = S.room in let l = S.is.below in omega arith)

  div_room : T (ltb (width * B) (limit * A))
  div_room = lt→ltb (width * B) (limit * A) (let k = S.one in let l = S.is.above in omega arith)

  pub times_most : {x : Float} → AtMost x way → AtMost (x ⊗ a) width
  times_most f = mul_most (width - 1) f S.is mul_room (le→leb (way * A) ((width - 1) * B) (let k = S.room in omega arith))

  pub over_most : {w : Float} → AtMost w width → AtMost (w ⊘ a) (width + 1)
  over_most f = div_most width f S.is div_room (le→leb (width * B) (width * A) (let k = S.one in omega arith))

  pub thin : (W H e : ℕ) → W * q ≡ H * p → H ≤ e * 2 → W ≤ e * 4
  thin W H e s h = thin_go W H e p q S.some S.half s h

  -- a height that is at most 4 too low gives a width at most 9 too low
  pub grows : (d : ℕ) {x : Float} (W H : ℕ) → AtMost x way → W * q ≡ H * p → H + N d x ≤ P d x + E d * 4 → W + N d (x ⊗ a) ≤ P d (x ⊗ a) + E d * 9
  grows d {x} W H f s h =
      grows_go W H (P d (x ⊗ a)) (N d (x ⊗ a)) (P d x) (N d x) (E d) A B p q S.is.below S.some S.least S.two s h (mul_law d f S.is mul_room).under

  -- a width that is no wider than a height asks is no higher than that height
  pub stays : (d : ℕ) {x w : Float} → AtMost x way → AtMost w width → Le d w (x ⊗ a) → P d (w ⊘ a) + N d x ≤ P d x + N d (w ⊘ a) + E d * 2
  stays d {x} {w} f g h =
      stays_go (P d (w ⊘ a)) (N d (w ⊘ a)) (P d w) (N d w) (P d (x ⊗ a)) (N d (x ⊗ a)) (P d x) (N d x) (E d) A B S.is.above S.one h (mul_law d f S.is mul_room).over (div_law d g S.is div_room).over

  pub sinks : (d : ℕ) {w : Float} → AtMost w width → P d w ≤ N d w → P d (w ⊘ a) ≤ N d (w ⊘ a) + E d
  sinks d {w} g h = omega (arith, falls_go (N d (w ⊘ a)) (P d (w ⊘ a)) (N d w) (P d w) (E d) 0 A B S.is.above S.one (omega arith) (div_law d g S.is div_room).over)

  pub falls : (d : ℕ) {w : Float} → AtMost w width → N d w ≤ P d w + E d * 9 → N d (w ⊘ a) ≤ P d (w ⊘ a) + E d * 10
  falls d {w} g h = omega (arith, falls_go (P d (w ⊘ a)) (N d (w ⊘ a)) (P d w) (N d w) (E d) (E d * 9) A B S.is.above S.one h (div_law d g S.is div_room).under)
