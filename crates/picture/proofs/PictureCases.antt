-- What holds of each candidate holds of the layout that `controls` chooses among them.
use mathlib.Core.Bool.{Bool, not, ◌&&◌, ◌||◌}
use mathlib.Core.List.{List, [], ◌∷◌}
use lib.Dec.{T}
use lib.Ieee.{Float, lt}
use mir.Facts.{or_no}
use Rattle.std.specs.Prelude.{Option, Some, None}
use Rattle.prelude.proofs.Booleans.{either}
use Rattle.prelude.specs.Each.{Each}
use Rattle.prelude.specs.Lists.{find}
use Rattle.float.specs.Float.{◌⊖◌, k96, k124}
use Rattle.geometry.specs.declared.Rect.{Rect}
use Rattle.layout.specs.declared.Layout.{Layout}
use Rattle.layout.proofs.Found.{Given, nothing, given, guard}
use Rattle.picture.specs.Picture.{min_well, measure_stack_of, cramped_of, stacked_of, vertical_of, measure_row_of, rowed_of, horizontal_of, flatten}

module _ (C : Layout → Type 0) where
  module _ (base : Layout) where
    pub vertical_case : (left right : Rect) (analog : Bool)
        → (T (not (analog && lt (measure_stack_of left right analog).stick k96)) → T (not (lt (measure_stack_of left right analog).well min_well)) → C (stacked_of base left right analog (measure_stack_of left right analog)))
        → Given C (vertical_of base left right analog)
    unfolding vertical_of cramped_of
    vertical_case left right analog f =
        let s = measure_stack_of left right analog in
        let low = analog && lt s.stick k96 in
        let small = lt s.well min_well || lt s.width k124 in
        guard C (low || small) (λ t. given C (f (or_no low small t).0 (or_no (lt s.well min_well) (lt s.width k124) (or_no low small t).1).0))

    pub horizontal_case : (w : Float) (band : Rect) (analog psp : Bool)
        → (T (not (lt (measure_row_of w band analog psp).well min_well)) → C (rowed_of base w (measure_row_of w band analog psp))) → Given C (horizontal_of base w band analog psp)
    unfolding horizontal_of
    horizontal_case w band analog psp f =
        let row = measure_row_of w band analog psp in
        let narrow = lt (row.middleright ⊖ row.middleleft) row.required in
        guard C (lt row.well min_well || narrow) (λ t. given C (f (or_no (lt row.well min_well) narrow t).0))

  module _ (fit : Layout → Bool) where
    pub first_case : (candidates : List (Option Layout)) → Each (Given C) candidates → Given C (find fit Some None (flatten candidates))
    unfolding flatten
    first_case [] e = nothing C
    first_case (None ∷ candidates) e = first_case candidates e.1
    first_case (Some l ∷ candidates) e = either (Given C) (fit l) e.0 (first_case candidates e.1)
