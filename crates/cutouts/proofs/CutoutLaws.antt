-- Laws of the cutout pass: each element stays, or lies on the screen in its old size; labels, counts and arrays stay.
use mathlib.Core.Path.{◌≡◌, refl, ap, ◌∙◌}
use mathlib.Core.Bool.{true}
use mathlib.Core.List.{List, [], ◌∷◌}
use Rattle.std.specs.List.{fold}
use mathlib.Core.Logic.{inl, inr}
use Prim.Native.Nat.{ℕ, zero, suc, ◌≤◌}
use lib.Dec.{eqb}
use lib.Ieee.{Float, binary32}
use lib.Ieee.Fits.{add-fits}
use lib.ListN.{length, get_or, set}
use Rattle.prelude.proofs.Booleans.{either, both}
use Rattle.prelude.proofs.ListLaws.{find_passes}
use Rattle.prelude.proofs.EachLaws.{fold_keeps}
use Rattle.geometry.specs.declared.Rect.{Rect}
use Rattle.geometry.specs.Rect.{shifted_of, inside_of}
use Rattle.layout.specs.declared.Label.{Label}
use Rattle.layout.specs.declared.Layout.{Layout}
use Rattle.layout.specs.Actions.{action_elements_of}
use Rattle.layout.specs.Layout.{any_rect, elements_of}
use Rattle.layout.specs.Labels.{Formed}
use Rattle.layout.proofs.LabelLaws.{set_elements_formed}
use Rattle.moves.specs.declared.Move.TheVariants.{Stay, Go}
use Rattle.moves.specs.Moves.{clear_of, all_clear_of, first_clear_of, candidates_of, ordered_of, search_of}
use Rattle.cutouts.specs.Cutouts.{with_area_of, members_of, others_of, hits_of, shift_of, settle_of, singles_of, avoid_of, avoid_cutouts_of}
use Rattle.cutouts.specs.Settled.{Moved, Settled, AllSettled, none, next}

module _ {w h : Float} where
  all_length : {xs ys : List Rect} → AllSettled w h xs ys → length ys ≡ length xs
  all_length none = refl
  all_length (next s e) = ap suc (all_length e)

  -- one element anew
  all_set : {xs ys : List Rect} (i : ℕ) (v : Rect) → AllSettled w h xs ys → Settled w h (get_or xs i any_rect) v → AllSettled w h xs (set ys i v)
  all_set i v none r = none
  all_set zero v (next s e) r = next r e
  all_set (suc i) v (next s e) r = next s (all_set i v e r)

  then : {a b c : Rect} → Settled w h a b → Settled w h b c → Settled w h a c
  then p (inl e) = rw e p
  then (inl e) (inr q) = inr (rw e at q)
  then (inr p) (inr q) = inr (record { inside = q.inside; fitsx = q.fitsx; fitsy = q.fitsy; width = q.width ∙ p.width; height = q.height ∙ p.height })

  all_same : (xs : List Rect) → AllSettled w h xs xs
  all_same [] = none
  all_same (x ∷ xs) = next (inl refl) (all_same xs)

  all_then : {xs ys zs : List Rect} → AllSettled w h xs ys → AllSettled w h ys zs → AllSettled w h xs zs
  all_then none none = none
  all_then (next s p) (next t q) = next (then s t) (all_then p q)

module _ (w h : Float) where
  module _ (holes others elements : List Rect) where
    -- a move that leaves the group clear
    all_move : (dx dy : Float) (group : List ℕ) (es : List Rect) → AllSettled w h elements es → all_clear_of w h holes others (members_of elements group) (dx, dy) ≡ true
        → AllSettled w h elements (fold (λ es i. set es i (shifted_of (get_or elements i any_rect) dx dy)) es group)
    unfolding clear_of
    all_move dx dy [] es e a = e
    all_move dx dy (i ∷ group) es e a =
        let r = get_or elements i any_rect in
        let new = shifted_of r dx dy in
        let b = both (clear_of w h holes others new) (all_clear_of w h holes others (members_of elements group) (dx, dy)) a in
        let c = both (inside_of new w h) _ b.0 in
        let m : Moved w h r new = record { inside = c.0; fitsx = add-fits binary32 r.x dx; fitsy = add-fits binary32 r.y dy; width = refl; height = refl } in
        all_move dx dy group (set es i new) (all_set i new e (inr m)) b.1

    -- the move that is chosen
    all_search : (group : List ℕ) (candidates : List (Float × Float)) → AllSettled w h elements (shift_of elements group (first_clear_of w h holes others (members_of elements group) candidates))
    unfolding shift_of
    all_search group candidates =
        find_passes (all_clear_of w h holes others (members_of elements group)) (λ m. AllSettled w h elements (shift_of elements group m)) (λ (dx, dy). Go dx dy) Stay candidates (all_same elements)
        (λ (dx, dy) a. all_move dx dy group elements (all_same elements) a)

  all_settle : (holes elements : List Rect) (group : List ℕ) → AllSettled w h elements (settle_of w h holes elements group)
  unfolding settle_of search_of
  all_settle holes elements group =
      let members = members_of elements group in
      either (AllSettled w h elements) (hits_of members holes) (all_search holes (others_of elements group) elements group (ordered_of (candidates_of members holes))) (all_same elements)

  module _ (l : Layout) (cutouts : List Rect) where
    -- the elements after the pass
    abbrev pub elements_after : List Rect
    elements_after = avoid_of w h (with_area_of cutouts) (action_elements_of l) (elements_of l)

    pub all_after : AllSettled w h (elements_of l) elements_after
    all_after =
        fold_keeps (AllSettled w h (elements_of l)) (settle_of w h (with_area_of cutouts)) (λ es g e. all_then e (all_settle (with_area_of cutouts) es g))
        (action_elements_of l ∷ singles_of (action_elements_of l) (length (elements_of l)))
        (elements_of l) (all_same (elements_of l))

    pub length_after : length elements_after ≡ length (elements_of l)
    length_after = all_length all_after

-- the cutout pass keeps labels, counts and arrays
pub avoid_formed : (labels : List Label) (sticks : ℕ) (w h : Float) (l : Layout) → l.count ≤ 12 → l.stickcount ≤ 2 → (cutouts : List Rect)
    → Formed labels sticks l → Formed labels sticks (avoid_cutouts_of l w h cutouts)
unfolding avoid_cutouts_of
avoid_formed labels sticks w h l cs ss cutouts f =
    either (Formed labels sticks) (eqb (length (with_area_of cutouts)) 0) f (set_elements_formed labels sticks l cs ss _ (length_after w h l cutouts) f)
