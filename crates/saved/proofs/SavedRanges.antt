-- Every restored element is in range.
use mathlib.Core.Path.{◌∙◌}
use mathlib.Core.List.{List, [], ◌∷◌}
use Prim.Native.Nat.{◌≤◌}
use native.Mathlib.Omega.{arith}
use lib.Dec.{T}
use lib.Ieee.{Float}
use lib.ListN.{length}
use Rattle.prelude.proofs.Booleans.{either, by_test}
use Rattle.prelude.specs.Each.{Each}
use Rattle.prelude.specs.Lists.{is_empty}
use Rattle.geometry.specs.declared.Rect.{Rect}
use Rattle.layout.specs.declared.Layout.{Layout}
use Rattle.layout.specs.Layout.{elements_of}
use Rattle.layout.proofs.ElementLaws.{length_elements}
use Rattle.numerics.specs.Rects.{Element}
use Rattle.numerics.specs.Range.{In, at}
use Rattle.numerics.proofs.Operations.{whole_finite}
use Rattle.numerics.proofs.Ranges.{sub_in, min_in, element_in, saved_in}
use Rattle.numerics.proofs.Literals.{lit}
use Rattle.layout_ranges.specs.Bounded.{Bounded}
use Rattle.layout_ranges.proofs.Changes.{set_elements_in, elements_in}
use Rattle.settings.specs.Settings.{usable_of}
use Rattle.saved.specs.Saved.{on_screen_of, restore_of, restored_of, with_saved_of}
use Rattle.saved.proofs.SavedLaws.{usable_finite, length_restored}

module _ {w h : Float} (W : In w (at 1) (at 8192)) (H : In h (at 1) (at 8192)) where
  on_screen_in : (r : Rect) → T (usable_of r) → Element (on_screen_of w h r)
  unfolding on_screen_of
  on_screen_in r t =
      let f = usable_finite r t in
      let across = whole_finite w W.whole in
      let down = whole_finite h H.whole in
      let width = saved_in r.w w f.2 across (min_in (lit 24) W) W in
      let height = saved_in r.h h f.3 down (min_in (lit 24) H) H in
      let x = saved_in r.x w f.0 across (lit 0) (sub_in W width tt) in
      let y = saved_in r.y h f.1 down (lit 0) (sub_in H height tt) in
      element_in x y width height tt

  restored_in : (saved es : List Rect) → Each Element es → Each Element (restored_of w h saved es)
  unfolding restored_of restore_of
  restored_in [] es E = E
  restored_in (r ∷ rs) [] E = tt
  restored_in (r ∷ rs) (e ∷ es) E = (by_test Element (usable_of r) (on_screen_in r) (λ t. E.0), restored_in rs es E.1)

  pub saved_bounded : (l : Layout) → l.count ≤ length l.controls → l.stickcount ≤ length l.sticks → Bounded l → (saved : List Rect) → Bounded (with_saved_of l w h saved)
  unfolding with_saved_of
  saved_bounded l cs ss L saved =
      let n = length_restored w h saved (elements_of l) ∙ length_elements l cs ss in
      either Bounded (is_empty saved) L (set_elements_in (restored_of w h saved (elements_of l)) (omega (arith, n)) L (restored_in saved (elements_of l) (elements_in l L)))
