-- The edges, sides and numbers of an accepted order's film sheet: each line is that of its rectangle, and the laws of a line do the rest.
use mathlib.Core.Path.{sym, ap, subst, ◌∙◌}
use mathlib.Core.List.{List}
use Prim.Native.Nat.{ℕ}
use Rattle.prelude.proofs.EachLaws.{each_imp, pairwise_imp}
use Rattle.geometry.specs.declared.Rect.{Rect}
use Rattle.numerics.specs.Value.{value}
use Rattle.settings.specs.declared.Settings.{Settings}
use Rattle.preset.specs.Preset.{settings_layout_of}
use Rattle.preset.proofs.PresetLabels.{settings_few}
use Rattle.tenths.specs.Tenths.{tenths_of}
use Rattle.tenths.proofs.SpanLaws.{span_near, span_at_least_zero}
use Rattle.lines.specs.Line.{Line, line_of, Numbers}
use Rattle.lines.proofs.LineLaws.{length_number}
use Rattle.lines.proofs.EdgeLaws.{edge_rounded}
use Rattle.sheet.specs.Sheet.{lines_of, line_rects}
use Rattle.sheet.proofs.SheetLaws.{OfRect, Short, lines_lined, lines_short}
use Rattle.film_sheet.specs.Promises.{OfLines, RoundedEdge, EdgesRounded, MeetsEdge, EdgesMeet, NearSides, SidesNear, AtLeastZeroSides, SidesAtLeastZero, SevenCharacters, NumbersFit}
use Rattle.film_sheet.proofs.FilmLaws.{order_bounded}

-- what holds of every rectangle's line
of_lines : (C : Line → Rect → Type 0) → ((name : List ℕ) (r : Rect) → C (line_of name r) r) → (s : Settings) → OfLines C s
of_lines C g s =
    let l = settings_layout_of s in
    pairwise_imp OfRect C (λ line r e. subst (λ (z : Line). C z r) (sym e) (g line.name r)) (lines_of l) (line_rects l) (lines_lined l (settings_few s))

pub edges_rounded : EdgesRounded
edges_rounded e order s a = of_lines (RoundedEdge e) (λ name r. edge_rounded name r e) s

pub edges_meet : EdgesMeet
edges_meet e f order s a =
    let l = settings_layout_of s in
    pairwise_imp (RoundedEdge e) (λ line r. OfLines (MeetsEdge e f line r) s)
    (λ line r p. pairwise_imp (RoundedEdge f) (MeetsEdge e f line r) (λ other q t h. p ∙ ap tenths_of h ∙ sym t) (lines_of l) (line_rects l) (edges_rounded f order s a))
    (lines_of l) (line_rects l) (edges_rounded e order s a)

pub sides_near : SidesNear
unfolding line_of
sides_near order s a = of_lines NearSides (λ name r. (span_near (value r.x) (value r.w), span_near (value r.y) (value r.h))) s

pub sides_at_least_zero : SidesAtLeastZero
unfolding line_of
sides_at_least_zero order s a = of_lines AtLeastZeroSides (λ name r. (span_at_least_zero (value r.x) (value r.w), span_at_least_zero (value r.y) (value r.h))) s

pub numbers_fit : NumbersFit
numbers_fit order s a =
    let b = order_bounded order a in
    each_imp Short (Numbers SevenCharacters)
    (λ l n. record { x = length_number _ n.1.x; y = length_number _ n.1.y; w = length_number _ n.1.w; h = length_number _ n.1.h })
    (lines_of (settings_layout_of s)) (lines_short (settings_layout_of s) (settings_few s) b.0 b.1)
