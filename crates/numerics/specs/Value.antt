-- The value of an f32 in exact arithmetic: document 01's "a finite f32 is a whole number of 2^-149". A unit is 2^-149.
use Rattle.std.specs.Prelude.{◌≡◌, Bool, true, false, ℕ, suc, ◌+◌, ◌*◌, ◌/◌, ◌^◌, ◌≤◌, ◌<◌, ℤ, pos, negsuc, neg_ℤ, Float}
use Rattle.std.specs.Float.{nan, inf, fin}
use Rattle.std.specs.Float.Ieee.{up, down}

-- the size of x in units
unfoldable pub magnitude : Float → ℕ
magnitude nan = 0
magnitude (inf s) = 0
magnitude (fin s m e) = m * up e * 2 ^ 149 / down e

abbrev pub sign : Float → Bool
sign nan = false
sign (inf s) = s
sign (fin s m e) = s

-- x is finite, and a whole number of units
abbrev pub Whole : Float → Type 0
Whole nan = ⊥
Whole (inf s) = ⊥
Whole (fin s m e) = m * up e * 2 ^ 149 ≡ magnitude (fin s m e) * down e

-- x in units
abbrev pub value : Float → ℤ
value nan = pos 0
value (inf s) = pos 0
value (fin false m e) = pos (magnitude (fin false m e))
value (fin true m e) = neg_ℤ (pos (magnitude (fin true m e)))

-- The same by two natural numbers, for arithmetic without signs: the part above zero and the part below, one of which is 0.
abbrev pub pos_if : Bool → ℕ → ℕ
pos_if false g = g
pos_if true g = 0

abbrev pub neg_if : Bool → ℕ → ℕ
neg_if false g = 0
neg_if true g = g

unfoldable pub pos_part : Float → ℕ
pos_part x = pos_if (sign x) (magnitude x)

unfoldable pub neg_part : Float → ℕ
neg_part x = neg_if (sign x) (magnitude x)

-- the two parts of any whole number
abbrev pub above : ℤ → ℕ
above (pos n) = n
above (negsuc n) = 0

abbrev pub below : ℤ → ℕ
below (pos n) = 0
below (negsuc n) = suc n

-- 1/256 in units, by which an operation may err on values below 2^17
unfoldable pub eps : ℕ
eps = 2 ^ 141

-- 2^17 in units
unfoldable pub top : ℕ
top = 2 ^ 166

-- 2^17 in 256ths
abbrev pub limit : ℕ
limit = 0x2000000

-- x is finite, and n / 256 at most in size
pub record AtMost (x : Float) (n : ℕ) : Type 0 where
  pub whole : Whole x
  pub size : pos_part x + neg_part x ≤ eps * n

-- y is the fraction Y / W, above zero
pub record Fraction (y : Float) (Y W : ℕ) : Type 0 where
  pub whole : Whole y
  pub plus : sign y ≡ false
  pub is : magnitude y * W ≡ Y * 2 ^ 149
  pub above : 0 < Y
  pub below : 0 < W

-- Values times a divisor d: x is P d x - N d x units over d, and E d is 1/256 there.
unfoldable pub P : ℕ → Float → ℕ
P d x = pos_part x * d

unfoldable pub N : ℕ → Float → ℕ
N d x = neg_part x * d

unfoldable pub E : ℕ → ℕ
E d = eps * d

-- x is y at most
abbrev pub Le : ℕ → Float → Float → Type 0
Le d x y = P d x + N d y ≤ P d y + N d x
