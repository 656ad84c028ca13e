-- Document 01's bytes of numbers, of rectangles and of fields, in an order as in a layout: read, and written.
use Rattle.std.specs.Prelude.{cond, List, [], ◌∷◌, ◌++◌, ℕ, zero, suc, ◌+◌, ◌*◌, ◌/◌, ◌%◌, ◌^◌, eqb, leb, Float, length, get_or, take, drop}
use Rattle.std.specs.Float.{binary32}
use Rattle.std.specs.Float.Ieee.{of_bits, to_bits, eq}
use Rattle.prelude.specs.Answer.{Answer, accepted, must}
use Rattle.prelude.specs.Lists.{tabulate}
use Rattle.float.specs.Float.{k0}
use Rattle.geometry.specs.declared.Rect.{Rect}
use Rattle.geometry.specs.Rect.{new_of, rect_array}

-- ---- read

-- a number of two bytes
abbrev pub short_of : ℕ → ℕ → ℕ
short_of high low = high * 256 + low

-- a number of four bytes, high byte first
abbrev pub word_of : ℕ → ℕ → ℕ → ℕ → ℕ
word_of a b c d = ((a * 256 + b) * 256 + c) * 256 + d

-- the i-th f32 of a value
unfoldable pub number_at_of : List ℕ → ℕ → Float
number_at_of v i =
    let at = 4 * i in
    of_bits binary32 (word_of (get_or v at 0) (get_or v (at + 1) 0) (get_or v (at + 2) 0) (get_or v (at + 3) 0))

-- the i-th rectangle of a value
unfoldable pub rect_at_of : List ℕ → ℕ → Rect
rect_at_of v i =
    new_of (number_at_of v (4 * i)) (number_at_of v (4 * i + 1)) (number_at_of v (4 * i + 2)) (number_at_of v (4 * i + 3))

-- the first n rectangles of a value
abbrev pub rects : List ℕ → ℕ → List Rect
rects v n = tabulate (rect_at_of v) n

-- an array of `size`: the first n rectangles of a value, and zeros
unfoldable pub filled : ℕ → List ℕ → ℕ → List Rect
filled size v n = rect_array size n (rects v n)

-- the value of the field with a tag, among the first n fields
unfoldable pub field_value : ℕ → ℕ → List ℕ → List ℕ
field_value zero tag bytes = []
field_value (suc n) tag bytes =
    let size = short_of (get_or bytes 1 0) (get_or bytes 2 0) in
    let rest = drop 3 bytes in
    cond (eqb (get_or bytes 0 0) tag) (take size rest) (field_value n tag (drop size rest))

-- ---- written

-- a number of two bytes, high byte first
unfoldable pub short_bytes : ℕ → List ℕ
short_bytes n = n / 2 ^ 8 ∷ n % 2 ^ 8 ∷ []

-- a number's bit pattern as it is written: negative zero has plus zero's, a NaN 7FC00000
unfoldable pub written_bits_of : Float → ℕ
written_bits_of x = let n = to_bits binary32 x in cond (eqb n 0x8000_0000) 0 n

-- its four bytes, high byte first
unfoldable pub number_bytes : Float → List ℕ
number_bytes x = let n = written_bits_of x in n / 2 ^ 24 ∷ n / 2 ^ 16 % 2 ^ 8 ∷ n / 2 ^ 8 % 2 ^ 8 ∷ n % 2 ^ 8 ∷ []

unfoldable pub rect_bytes : Rect → List ℕ
rect_bytes r = number_bytes r.x ++ (number_bytes r.y ++ (number_bytes r.w ++ number_bytes r.h))

-- the tag and the length of a field
unfoldable pub head_bytes : ℕ → ℕ → List ℕ
head_bytes tag n = tag ∷ short_bytes n

-- a field: tag, length, value
abbrev pub field_bytes : ℕ → List ℕ → List ℕ
field_bytes tag value = head_bytes tag (length value) ++ value

-- ---- read back: "Negative zero is written as plus zero."
unfoldable pub plus_zero : Float → Float
plus_zero x = cond (eq x k0) k0 x

abbrev pub plus_zero_rect : Rect → Rect
plus_zero_rect r = new_of (plus_zero r.x) (plus_zero r.y) (plus_zero r.w) (plus_zero r.h)

-- ---- bytes put at the start of an output that the caller lends

-- how many they are, or 8, sheet too small
abbrev pub room_for : ℕ → List ℕ → Answer ℕ
room_for n out = must (leb n (length out)) 8 (accepted n)

-- the output afterwards: later bytes stay, and all of them on refusal
abbrev pub with_front : List ℕ → List ℕ → List ℕ
with_front bytes out = let n = length bytes in cond (leb n (length out)) (bytes ++ drop n out) out
