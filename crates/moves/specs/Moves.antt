-- The moves that take a group of elements off the cutouts, and the choice among them, as in `Layout::avoid_cutouts` of input.rs: there as
-- here, a candidate is a pair dx, dy.
use Rattle.std.specs.Prelude.{Bool, cond, not, ◌&&◌, ℕ, ◌+◌, ◌-◌, ltb, Float, take}
use mathlib.Core.List.{List, [], ◌∷◌}
use Rattle.std.specs.Float.Ieee.{to_bits}
use Rattle.std.specs.Float.{binary32}
use Rattle.std.specs.List.{fold, flat_map, zip, list_any, list_all}
use Rattle.prelude.specs.Lists.{find}
use Rattle.float.specs.Float.{◌⊕◌, ◌⊖◌, ◌⊗◌, k0, k8}
use Rattle.geometry.specs.declared.Rect.{Rect}
use Rattle.geometry.specs.Rect.{shifted_of, inside_of, overlaps_of}
use Rattle.moves.specs.declared.Move.{Move}
use Rattle.moves.specs.declared.Move.TheVariants.{Stay, Go}

-- ---- which moves there are

-- The moves that take r off a cutout, 8 away from it: to its left, to its right, above it and below it.
abbrev pub away_of : Rect → Rect → List (Float × Float)
away_of r c =
    (c.x ⊖ r.w ⊖ k8 ⊖ r.x, k0)
    ∷ (c.x ⊕ c.w ⊕ k8 ⊖ r.x, k0)
    ∷ (k0, c.y ⊖ r.h ⊖ k8 ⊖ r.y)
    ∷ (k0, c.y ⊕ c.h ⊕ k8 ⊖ r.y)
    ∷ []

-- the moves for one rectangle of a group and one cutout: none where they do not overlap
unfoldable pub moves_off : Rect → Rect → List (Float × Float)
moves_off r c = cond (overlaps_of r c) (away_of r c) []

-- the moves of a group, in the order in which they arise: for each of its rectangles, for each cutout
unfoldable pub candidates_of : List Rect → List Rect → List (Float × Float)
candidates_of original holes = flat_map (λ r. flat_map (moves_off r) holes) original

-- ---- the order in which they are tried

-- A move's length, squared.
abbrev pub length_of : Float × Float → Float
length_of (dx, dy) = dx ⊗ dx ⊕ dy ⊗ dy

-- A number's place in the order of Rust's `total_cmp`, which goes by the bit patterns: those of a clear sign upward, after those of a set
-- sign downward. The logic has one NaN, whose pattern 7FC00000 comes after the infinity.
unfoldable pub rank_of : Float → ℕ
rank_of x = let b = to_bits binary32 x in cond (ltb b 0x8000_0000) (b + 0x8000_0000) (0xffff_ffff - b)

unfoldable pub shorter_of : Float → Float → Bool
shorter_of a b = ltb (rank_of a) (rank_of b)

-- A move among others: in front of the first longer one.
unfoldable pub insert_of : List (Float × Float) → Float × Float → List (Float × Float)
insert_of [] m = m ∷ []
insert_of (y ∷ ys) m = cond (shorter_of (length_of m) (length_of y)) (m ∷ y ∷ ys) (y ∷ insert_of ys m)

-- The order in which moves are tried: the shorter first, and of equal length the one that arose first.
unfoldable pub ordered_of : List (Float × Float) → List (Float × Float)
ordered_of candidates = fold insert_of [] candidates

-- ---- the first that leaves the whole group clear

-- on the screen, off the cutouts, and off the elements outside the group
unfoldable pub clear_of : Float → Float → List Rect → List Rect → Rect → Bool
clear_of w h holes others r = inside_of r w h && (not (list_any (overlaps_of r) holes) && not (list_any (overlaps_of r) others))

abbrev pub all_clear_of : Float → Float → List Rect → List Rect → List Rect → Float × Float → Bool
all_clear_of w h holes others original (dx, dy) = list_all (λ r. clear_of w h holes others (shifted_of r dx dy)) original

abbrev pub first_clear_of : Float → Float → List Rect → List Rect → List Rect → List (Float × Float) → Move
first_clear_of w h holes others original candidates = find (all_clear_of w h holes others original) (λ (dx, dy). Go dx dy) Stay candidates

-- What becomes of a group.
unfoldable pub search_of : Float → Float → List Rect → List Rect → List Rect → Move
search_of w h holes others original = first_clear_of w h holes others original (ordered_of (candidates_of original holes))

-- ---- moves in arrays of numbers

-- the first n moves of two arrays of offsets
abbrev pub moves_in : List Float → List Float → ℕ → List (Float × Float)
moves_in dxs dys n = zip (take n dxs) (take n dys)
