-- `Layout::avoid_cutouts` of input.rs: the elements moved off the cutouts, group by group.
use Rattle.std.specs.Prelude.{Bool, cond, not, ◌&&◌, ℕ, ◌<◌, eqb, Float, length, get_or, set}
use mathlib.Core.List.{List, [], ◌∷◌, map}
use Rattle.std.specs.Float.Ieee.{lt}
use Rattle.std.specs.List.{fold, list_any}
use Rattle.prelude.specs.Lists.{range, filter_map, retain, is_empty}
use Rattle.prelude.specs.Each.{Each}
use Rattle.float.specs.Float.{k0}
use Rattle.geometry.specs.declared.Rect.{Rect}
use Rattle.geometry.specs.Rect.{shifted_of, overlaps_of}
use Rattle.layout.specs.declared.Layout.{Layout}
use Rattle.layout.specs.Actions.{action_elements_of}
use Rattle.layout.specs.Elements.{set_elements_of}
use Rattle.layout.specs.Layout.{any_rect, elements_of}
use Rattle.moves.specs.declared.Move.{Move}
use Rattle.moves.specs.declared.Move.TheVariants.{Stay, Go}
use Rattle.moves.specs.Moves.{search_of}

unfoldable pub has_area_of : Rect → Bool
has_area_of r = lt k0 r.w && lt k0 r.h

-- the cutouts that count here, and only here
abbrev pub with_area_of : List Rect → List Rect
with_area_of cutouts = retain has_area_of cutouts

-- ---- one group of elements, by their indices

abbrev pub in_group_of : List ℕ → ℕ → Bool
in_group_of group i = list_any (λ j. eqb j i) group

abbrev pub members_of : List Rect → List ℕ → List Rect
members_of elements group = map (λ i. get_or elements i any_rect) group

-- the elements outside the group
abbrev pub others_of : List Rect → List ℕ → List Rect
others_of elements group = filter_map (λ i. not (in_group_of group i)) (λ i. get_or elements i any_rect) (range 0 (length elements))

-- some rectangle overlaps a cutout
abbrev pub hits_of : List Rect → List Rect → Bool
hits_of original holes = list_any (λ r. list_any (overlaps_of r) holes) original

abbrev pub shift_by_of : List Rect → List ℕ → Float → Float → List Rect
shift_by_of elements group dx dy = fold (λ es i. set es i (shifted_of (get_or elements i any_rect) dx dy)) elements group

-- the group moved as the search says
unfoldable pub shift_of : List Rect → List ℕ → Move → List Rect
shift_of elements group Stay = elements
shift_of elements group (Go dx dy) = shift_by_of elements group dx dy

-- A group that overlaps a cutout moves by the shortest of its candidate moves that leaves it clear, if one does.
unfoldable pub settle_of : Float → Float → List Rect → List Rect → List ℕ → List Rect
settle_of w h holes elements group =
    let original = members_of elements group in
    cond (hits_of original holes) (shift_of elements group (search_of w h holes (others_of elements group) original)) elements

-- ---- the pass

-- every element that is no face, by itself
abbrev pub singles_of : List ℕ → ℕ → List (List ℕ)
singles_of faces n = filter_map (λ i. not (in_group_of faces i)) (λ i. i ∷ []) (range 0 n)

-- The faces move as one group and first: their diamond stays whole. Later groups see the earlier ones moved.
abbrev pub avoid_of : Float → Float → List Rect → List ℕ → List Rect → List Rect
avoid_of w h holes faces elements = fold (settle_of w h holes) elements (faces ∷ singles_of faces (length elements))

unfoldable pub avoid_cutouts_of : Layout → Float → Float → List Rect → Layout
avoid_cutouts_of l w h cutouts =
    let holes = with_area_of cutouts in
    cond (is_empty holes) l (set_elements_of l (avoid_of w h holes (action_elements_of l) (elements_of l)))

-- every index of the group is below n
abbrev pub BelowAll : ℕ → List ℕ → Type 0
BelowAll n group = Each (λ i. i < n) group
