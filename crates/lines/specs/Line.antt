-- A line of the film sheet of document 01, and its text.
use Rattle.std.specs.Prelude.{cond, List, [], ◌∷◌, ◌++◌, ℕ, zero, suc, ◌+◌, ◌/◌, ◌%◌, ◌<◌, ltb, ℤ, pos, negsuc, nat_abs, length}
use Rattle.prelude.specs.Lists.{stored}
use Rattle.geometry.specs.declared.Rect.{Rect}
use Rattle.numerics.specs.Value.{value, AtMost}
use Rattle.numerics.specs.Rects.{max_game_corner}
use Rattle.tenths.specs.Tenths.{tenths_of, span_of}
use Rattle.lines.specs.declared.SheetLine.{SheetLine}

-- a name in ASCII, and x, y, w and h in tenths
pub record Line : Type 0 where
  pub name : List ℕ
  pub x : ℤ
  pub y : ℤ
  pub w : ℤ
  pub h : ℤ

-- x and y are rounded, and so are the right and lower edges: w and h are what lies between (W-202).
unfoldable pub line_of : List ℕ → Rect → Line
line_of name r =
    record {
      name = name;
      x = tenths_of (value r.x);
      y = tenths_of (value r.y);
      w = span_of (value r.x) (value r.w);
      h = span_of (value r.y) (value r.h);
    }

-- the line that the code holds
abbrev pub line_in : SheetLine → Line
line_in l = record { name = l.name.now; x = l.x; y = l.y; w = l.w; h = l.h }

-- ---- text, in ASCII

-- the decimal digits of n, the most significant first, by a recursion of at most k steps
unfoldable pub digits_in : ℕ → ℕ → List ℕ
digits_in zero n = []
digits_in (suc k) n = cond (ltb n 10) ((48 + n) ∷ []) (digits_in k (n / 10) ++ ((48 + n % 10) ∷ []))

-- more steps than any number has digits
unfoldable pub digits_of : ℕ → List ℕ
unfolding digits_in
digits_of n = digits_in (suc n) n

-- with a minus below zero
unfoldable pub number_text : ℤ → List ℕ
number_text (pos n) = digits_of n
number_text (negsuc n) = 45 ∷ digits_of (suc n)

-- a blank and a number
unfoldable pub field_text : ℤ → List ℕ
field_text z = 32 ∷ number_text z

unfoldable pub line_text : Line → List ℕ
line_text l = l.name ++ (field_text l.x ++ (field_text l.y ++ (field_text l.w ++ (field_text l.h ++ (10 ∷ [])))))

-- a word, a number and a line feed
unfoldable pub head_text : List ℕ → ℕ → List ℕ
head_text word n = word ++ (digits_of n ++ (10 ∷ []))

-- ---- what the functions that print ask and do

-- how far a number may lie from zero, in 256ths
abbrev pub most : ℕ
most = max_game_corner

pub record Printable (r : Rect) : Type 0 where
  pub x : AtMost r.x most
  pub y : AtMost r.y most
  pub w : AtMost r.w most
  pub h : AtMost r.h most

-- C holds of the four numbers
pub record Numbers (C : ℤ → Type 0) (l : Line) : Type 0 where
  pub x : C l.x
  pub y : C l.y
  pub w : C l.w
  pub h : C l.h

-- a number has six digits at most
abbrev pub SixDigits : ℤ → Type 0
SixDigits z = nat_abs z < 1000000

-- the output with a text stored from `at` on, and where the text ends
unfoldable pub put_of : List ℕ → ℕ → List ℕ → List ℕ × ℕ
put_of out at text = (stored out at text, at + length text)
