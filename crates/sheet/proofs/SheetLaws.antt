-- Laws of the film sheet: its numbers are in range, it fits its array, and each line is that of its rectangle.
use mathlib.Core.Path.{◌≡◌, refl}
use mathlib.Core.List.{List, [], ◌∷◌, ◌++◌, map, zip_with}
use Prim.Native.Nat.{ℕ, zero, suc, ◌+◌, ◌*◌, ◌≤◌, ◌<◌, zero-le}
use native.Mathlib.Omega.{arith}
use lib.Dec.{T, leb, leb→le, le→leb}
use lib.ListN.{length, get_or, take, length-append, length-map, length-take}
use Rattle.prelude.specs.Each.{Each, Pairwise, ◌&◌}
use Rattle.prelude.proofs.EachLaws.{each_take, each_append, each_map, each_imp, pairwise_append}
use Rattle.geometry.specs.declared.Rect.{Rect}
use Rattle.layout.specs.declared.Control.{Control}
use Rattle.layout.specs.declared.Layout.{Layout}
use Rattle.layout.specs.Label.{name_of}
use Rattle.layout.specs.Layout.{any_rect, control_list, stick_list, bounds_of, elements_of, Few}
use Rattle.layout.proofs.Names.{length_name}
use Rattle.numerics.proofs.Bounds.{most_more}
use Rattle.numerics.specs.Rects.{Element}
use Rattle.layout_ranges.specs.Bounded.{Bounded, BoundedGame}
use Rattle.lines.specs.Line.{Line, line_of, head_text, most, Printable, Numbers, SixDigits}
use Rattle.lines.proofs.LineLaws.{length_digits, length_head, length_line, line_numbers}
use Rattle.sheet.specs.Sheet.{game_name, dpad_name, pause_name, play_name, speed_name, mute_name, left_name, right_name}
use Rattle.sheet.specs.Sheet.{control_line, toolbar_lines, stick_lines, lines_of, line_rects, lines_text, film, refusal, sheet_text}

-- a name of six letters and numbers of six digits at most, so that the line has 39 bytes at most
abbrev pub Short : Line → Type 0
Short l = (length l.name ≤ 6) × Numbers SixDigits l

short : (name : List ℕ) (r : Rect) → T (leb (length name) 6) → Printable r → Short (line_of name r)
unfolding line_of
short name r t p = (leb→le (length name) 6 t, line_numbers name r p)

length_lines : (ls : List Line) → Each Short ls → length (lines_text ls) ≤ 39 * length ls
length_lines [] e = zero-le
length_lines (l ∷ ls) e = simp length-append (omega (arith, e.0.0, length_line l e.0.1, length_lines ls e.1))

pub head_fits : (n : ℕ) → n ≤ 20 → length (head_text film n) ≤ 8
head_fits n h = omega (arith, length_head film n, length_digits 1 n (omega arith))

pub refused_fits : (n : ℕ) → n ≤ 8 → length (head_text refusal n) ≤ 10
refused_fits n h = omega (arith, length_head refusal n, length_digits 0 n (omega arith))

-- ---- the lines of a layout
pub element_printable : {r : Rect} → Element r → Printable r
element_printable e = record { x = most_more e.x most tt; y = most_more e.y most tt; w = most_more e.w most tt; h = most_more e.h most tt }

pub game_printable : {r : Rect} → BoundedGame r → Printable r
game_printable g = record { x = g.x; y = g.y; w = most_more g.w most tt; h = most_more g.h most tt }

stick_count : (rs : List Rect) → length rs ≤ 2 → length (stick_lines rs) ≡ length rs
unfolding stick_lines zip_with
stick_count [] h = refl
stick_count (a ∷ []) h = refl
stick_count (a ∷ b ∷ []) h = refl
stick_count (a ∷ b ∷ c ∷ rs) h = absurd (let z : ⊥ = omega arith in z)

-- one stick more
pub next_stick : (rs : List Rect) (n : ℕ) {name : List ℕ} {r : Rect} → n < length rs → n < 2 → name ≡ get_or (left_name ∷ right_name ∷ []) n [] → r ≡ get_or rs n any_rect
    → stick_lines (take (suc n) rs) ≡ stick_lines (take n rs) ++ (line_of name r ∷ [])
unfolding stick_lines zip_with
next_stick [] n h k e f = absurd (let z : ⊥ = omega arith in z)
next_stick (a ∷ rs) zero h k e f = rw (e, f)
next_stick (a ∷ []) (suc zero) h k e f = absurd (let z : ⊥ = omega arith in z)
next_stick (a ∷ b ∷ rs) (suc zero) h k e f = rw (e, f)
next_stick (a ∷ rs) (suc (suc n)) h k e f = absurd (let z : ⊥ = omega arith in z)

sticks_short : (rs : List Rect) → Each Element rs → Each Short (stick_lines rs)
unfolding stick_lines zip_with
sticks_short [] e = tt
sticks_short (a ∷ []) e = short left_name a tt (element_printable e.0) & tt
sticks_short (a ∷ b ∷ rs) e = short left_name a tt (element_printable e.0) & short right_name b tt (element_printable e.1.0) & tt

module _ (l : Layout) (few : Few l) where
  length_lines_of : length (lines_of l) ≡ length (control_list l) + length (stick_list l) + 6
  unfolding lines_of toolbar_lines
  length_lines_of = simp (length-append, length-map) (omega (arith, stick_count (stick_list l) (rw length-take (omega arith))))

  pub few_lines : length (lines_of l) ≤ 20
  few_lines = rw (length_lines_of, length-take l.count l.controls, length-take l.stickcount l.sticks) (omega arith)

module _ (l : Layout) (few : Few l) (b : Bounded l) where
  pub lines_short : BoundedGame l.game → Each Short (lines_of l)
  unfolding lines_of toolbar_lines
  lines_short g =
      short game_name l.game tt (game_printable g)
      & short dpad_name l.dpad tt (element_printable b.dpad)
      & each_append Short (map control_line (control_list l)) (toolbar_lines l ++ stick_lines (stick_list l))
      (each_map Short control_line (control_list l) (each_imp (λ c. Element c.bounds) (λ c. Short (control_line c)) control (control_list l)
      (each_take (λ c. Element c.bounds) l.count l.controls b.controls)))
      (short pause_name l.pause tt (element_printable b.pause)
      & short play_name l.playback tt (element_printable b.playback)
      & short speed_name l.speed tt (element_printable b.speed)
      & short mute_name l.mute tt (element_printable b.mute)
      & sticks_short (stick_list l) (each_take Element l.stickcount l.sticks b.sticks))
    where
      control : (c : Control) → Element c.bounds → Short (control_line c)
      control c e = short (name_of c.label) c.bounds (le→leb (length (name_of c.label)) 6 (length_name c.label)) (element_printable e)

  -- 20 lines of 39 bytes at most
  pub lines_fit : BoundedGame l.game → length (lines_text (lines_of l)) ≤ 780
  lines_fit g = omega (arith, few_lines l few, length_lines (lines_of l) (lines_short g))

  -- and a header of 8
  pub sheet_fits : BoundedGame l.game → length (sheet_text (lines_of l)) ≤ 788
  unfolding sheet_text
  sheet_fits g = simp length-append (omega (arith, lines_fit g, head_fits (length (lines_of l)) (few_lines l few)))

-- ---- each line is that of its rectangle
abbrev pub OfRect : Line → Rect → Type 0
OfRect line r = line ≡ line_of line.name r

controls_lined : (cs : List Control) → Pairwise OfRect (map control_line cs) (map (λ c. c.bounds) cs)
unfolding line_of
controls_lined [] = tt
controls_lined (c ∷ cs) = refl & controls_lined cs

sticks_lined : (rs : List Rect) → length rs ≤ 2 → Pairwise OfRect (stick_lines rs) rs
unfolding stick_lines zip_with line_of
sticks_lined [] h = tt
sticks_lined (a ∷ []) h = refl & tt
sticks_lined (a ∷ b ∷ []) h = refl & refl & tt
sticks_lined (a ∷ b ∷ c ∷ rs) h = absurd (let z : ⊥ = omega arith in z)

pub lines_lined : (l : Layout) → Few l → Pairwise OfRect (lines_of l) (line_rects l)
unfolding lines_of toolbar_lines elements_of line_of
lines_lined l few =
    refl & refl
    & pairwise_append OfRect (map control_line (control_list l)) (bounds_of l) _ _ (controls_lined (control_list l))
    (refl & refl & refl & refl & sticks_lined (stick_list l) (rw length-take (omega arith)))
