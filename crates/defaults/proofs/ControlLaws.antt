-- The controls of an analog layout are those at the places of its labels, and scaled without toolbar and game they are scaled as with them.
use mathlib.Core.Path.{◌≡◌, refl, ap, sym, subst⁻¹, ◌∙◌}
use mathlib.Core.Bool.{Bool, true, false, cond, ◌||◌}
use mathlib.Core.List.{List, [], ◌∷◌, ◌++◌, map, map-map, zip_with}
use native.Mathlib.Omega.{arith}
use lib.Ieee.{ne}
use lib.Seq.{take_all}
use Rattle.prelude.proofs.ListLaws.{take_map_first}
use Rattle.geometry.specs.declared.Rect.{Rect}
use Rattle.layout.specs.declared.Control.{Control}
use Rattle.layout.specs.declared.Label.TheVariants.{L3, R3}
use Rattle.layout.specs.declared.Layout.{Layout}
use Rattle.layout.specs.Layout.{control, with_game, with_toolbar, with_dpad, control_list, elements_of}
use Rattle.layout.specs.Elements.{set_elements_of}
use Rattle.layout.specs.Labels.{labels_of, standard_labels, analog_labels, Formed}
use Rattle.places.specs.declared.Places.{Places}
use Rattle.places.proofs.PlaceLabels.{placed_formed}
use Rattle.places.specs.Places.{control_at_of, controller_of, analog_controller_of, at_of, placed_control, placed_of}
use Rattle.arranged.specs.Controls.{bare_of}
use Rattle.band.specs.Band.{with_analog_of}
use Rattle.band.proofs.BandLabels.{with_analog_controls, with_analog_formed}
use Rattle.defaults.specs.declared.Size.{Size}
use Rattle.defaults.specs.Defaults.{scaled_rect_of, shrunk_of}

module _ (p : Places) (dpad left right : Rect) (l : Layout) where
  placed_controls : control_list (placed_of l p) ≡ map (control_at_of p) (labels_of l)
  unfolding placed_of
  placed_controls = take_map_first (placed_control p) l.count l.controls ∙ sym (map-map (control_at_of p) (λ (c : Control). c.label) (control_list l))

  -- a standard layout, with L3 and R3 added
  pub added_bare : Formed standard_labels 0 l → bare_of (with_analog_of (with_dpad (placed_of l p) dpad) p.l3 p.r3 left right) ≡ analog_controller_of p dpad left right
  unfolding with_analog_of at_of controller_of
  added_bare f =
      let digital = with_dpad (placed_of l p) dpad in
      let g = placed_formed standard_labels 0 l p f in
      let k = with_analog_formed digital p.l3 p.r3 left right g in
      let n = k.0.1 in
      let m = k.1.0 in
      let c = g.0.1 in
      let d = g.1.0 in
      let all = with_analog_of digital p.l3 p.r3 left right in
      let added = with_analog_controls digital p.l3 p.r3 left right (omega arith) in
      let standard : control_list digital ≡ map (control_at_of p) standard_labels = placed_controls ∙ ap (map (control_at_of p)) f.0.0 in
      let e : all.controls ≡ map (control_at_of p) analog_labels =
      sym (take_all all.count all.controls (omega arith)) ∙ added ∙ ap (λ (t : List Control). t ++ (control p.l3 L3 ∷ control p.r3 R3 ∷ [])) standard in
      rw (e, n)

module _ (requested full : Size) where
  -- toolbar and game do not matter to the scaled controls
  shrunk_dressed : (p : Places) (dpad left right game pause playback speed mute : Rect)
      → let bare = analog_controller_of p dpad left right in
      bare_of (shrunk_of bare requested full) ≡ bare_of (shrunk_of (with_game (with_toolbar bare playback speed mute pause) game) requested full)
  unfolding shrunk_of set_elements_of elements_of zip_with controller_of
  shrunk_dressed p dpad left right game pause playback speed mute = go (ne requested.w full.w || ne requested.h full.h)
    where
      bare : Layout
      bare = analog_controller_of p dpad left right

      dressed : Layout
      dressed = with_game (with_toolbar bare playback speed mute pause) game

      scaled : Layout → Layout
      scaled m = set_elements_of m (map (scaled_rect_of requested full) (elements_of m))

      go : (b : Bool) → bare_of (cond b (scaled bare) bare) ≡ bare_of (cond b (scaled dressed) dressed)
      go true = refl
      go false = refl

  pub shrunk_bare : (p : Places) (dpad left right : Rect) (l : Layout) → bare_of l ≡ analog_controller_of p dpad left right → bare_of (shrunk_of (bare_of l) requested full) ≡ bare_of (shrunk_of l requested full)
  shrunk_bare p dpad left right l e =
      subst⁻¹
      (λ (b : Layout). bare_of (shrunk_of b requested full) ≡ bare_of (shrunk_of (with_game (with_toolbar b l.playback l.speed l.mute l.pause) l.game) requested full))
      e
      (shrunk_dressed p dpad left right l.game l.pause l.playback l.speed l.mute)
