-- The labels, the counts and the lengths of the arrays of the default layouts: standard, analog and psp.
use mathlib.Core.Bool.{true, false, ◌||◌}
use mathlib.Core.List.{List, []}
use Prim.Native.Nat.{ℕ, ◌≤◌}
use lib.Ieee.{Float, ne}
use lib.ListN.{length-map}
use Rattle.prelude.proofs.Booleans.{either}
use Rattle.float.specs.Float.{k0, k360}
use Rattle.float.specs.MinMax.{max_of}
use Rattle.geometry.specs.declared.Rect.{Rect}
use Rattle.geometry.specs.Rect.{new_of}
use Rattle.layout.specs.declared.Label.{Label}
use Rattle.layout.specs.declared.Layout.{Layout}
use Rattle.layout.specs.Layout.{elements_of}
use Rattle.layout.specs.Labels.{standard_labels, analog_labels, psp_labels, Formed}
use Rattle.layout.proofs.LabelLaws.{set_elements_formed, mode_counts, with_inputs_formed}
use Rattle.search.specs.Search.{place_game_in_aspect_of}
use Rattle.places.proofs.PlaceLabels.{placed_formed}
use Rattle.arranged.specs.Arranged.{arranged_of, side_rails_of}
use Rattle.arranged.proofs.ArrangedLabels.{finished_formed, arranged_formed, side_rails_formed}
use Rattle.band.proofs.BandLabels.{with_analog_formed, band_formed}
use Rattle.defaults.specs.declared.Size.{Size}
use Rattle.defaults.specs.Defaults.{clear_game_of, default_in_of, new_layout_of, analog_full_of, size, scaled_rect_of, shrunk_of, analog_default_of, psp_of}
use Rattle.defaults.proofs.DefaultCases.{band_case, default_case}

module _ (labels : List Label) (sticks : ℕ) (l : Layout) (f : Formed labels sticks l) where
  shrunk_formed : l.count ≤ 12 → l.stickcount ≤ 2 → (requested full : Size) → Formed labels sticks (shrunk_of l requested full)
  unfolding shrunk_of
  shrunk_formed cs ss requested full =
      let scaled = set_elements_formed labels sticks l cs ss _ (length-map (elements_of l) (scaled_rect_of requested full)) f in
      either (Formed labels sticks) (ne requested.w full.w || ne requested.h full.h) scaled f

  clear_formed : (picture : Rect) → Formed labels sticks (clear_game_of l picture)
  unfolding place_game_in_aspect_of
  clear_formed picture = f

module _ (w h : Float) where
  pub default_formed : (cutouts : List Rect) (picture : Rect) → Formed standard_labels 0 (default_in_of w h cutouts picture)
  default_formed cutouts picture =
      default_case (Formed standard_labels 0) w h cutouts picture
      (λ compact. clear_formed standard_labels 0 (arranged_of w h compact) (arranged_formed w h compact) picture)
      (clear_formed standard_labels 0 (side_rails_of w h picture.h cutouts) (side_rails_formed w h picture.h cutouts) picture)
      (band_formed w h false false picture)

  pub full_formed : Formed analog_labels 2 (analog_full_of w h)
  unfolding analog_full_of
  full_formed = with_analog_formed _ _ _ _ _ (placed_formed standard_labels 0 (new_layout_of w h) _ (default_formed [] (new_of k0 k0 w h)))

module _ (w h : Float) where
  pub analog_formed : Formed analog_labels 2 (analog_default_of w h)
  unfolding analog_default_of
  analog_formed =
      let full = size (max_of w k360) (max_of h k360) in
      let layout = analog_full_of full.w full.h in
      let f = full_formed full.w full.h in
      let n = mode_counts true false layout f.0 in
      band_case (Formed analog_labels 2) w h true (new_of k0 k0 w h)
      (finished_formed analog_labels 2 (shrunk_of layout (size w h) full) w h (shrunk_formed analog_labels 2 layout f n.0 n.1 (size w h) full))
      (band_formed w h true false (new_of k0 k0 w h))

  pub psp_formed : Formed psp_labels 1 (psp_of w h)
  unfolding psp_of
  psp_formed = with_inputs_formed true true (analog_default_of w h) analog_formed
