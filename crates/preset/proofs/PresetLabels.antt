-- Every step of `layout_in` keeps the labels, the counts and the arrays of its mode.
use mathlib.Core.Bool.{Bool, ◌||◌}
use mathlib.Core.List.{List}
use lib.Ieee.{Float, lt}
use Rattle.prelude.proofs.Booleans.{either}
use Rattle.prelude.specs.Lists.{is_empty}
use Rattle.float.specs.Float.{k0, k1}
use Rattle.float.specs.MinMax.{max_of}
use Rattle.geometry.specs.declared.Rect.{Rect}
use Rattle.layout.specs.declared.Layout.{Layout}
use Rattle.layout.specs.Labels.{OfMode}
use Rattle.layout.proofs.LabelLaws.{set_elements_formed, few}
use Rattle.layout.specs.Layout.{Few, elements_of}
use Rattle.search.specs.Search.{aspect_of}
use Rattle.search.proofs.GameLabels.{place_mode}
use Rattle.settings.specs.declared.Preset.{Preset}
use Rattle.settings.specs.declared.Settings.{Settings}
use Rattle.settings.specs.Settings.{saved_list}
use Rattle.saved.specs.Saved.{with_saved_of}
use Rattle.saved.proofs.SavedLaws.{length_restored}
use Rattle.toolbar.specs.Toolbar.{anchor_toolbar_of, reusable_top_of}
use Rattle.toolbar.proofs.ToolbarLabels.{anchor_mode}
use Rattle.cutouts.specs.Cutouts.{avoid_cutouts_of}
use Rattle.cutouts.proofs.CutoutLabels.{avoid_mode}
use Rattle.landscape.proofs.LandscapeLaws.{landscape_formed}
use Rattle.arrangement_choice.proofs.ChoiceLabels.{arrangement_mode}
use Rattle.preset.proofs.PresetCases.{area_for, arrangement_for, placed_for, laid_out_case}
use Rattle.preset.specs.Preset.{settled_of, maximum_of, plain_of, analog_of, laid_out_of, layout_in_of, viewport_layout_of, settings_layout_of, settings_viewport_of}

pub saved_mode : (analog psp : Bool) (l : Layout) → OfMode analog psp l → (w h : Float) (saved : List Rect) → OfMode analog psp (with_saved_of l w h saved)
unfolding with_saved_of
saved_mode analog psp l f w h saved =
    let n = few analog psp l f in
    either (OfMode analog psp) (is_empty saved) f (set_elements_formed _ _ l n.0 n.1 _ (length_restored w h saved (elements_of l)) f)

module _ (w h : Float) (cutouts : List Rect) (picture : Rect) where
  settled_mode : (analog psp : Bool) (l : Layout) → OfMode analog psp l → (saved : List Rect) → OfMode analog psp (settled_of l w h cutouts picture saved)
  unfolding settled_of
  settled_mode analog psp l f saved =
      let restored = with_saved_of l w h saved in
      let g = avoid_mode analog psp restored (saved_mode analog psp l f w h saved) w h cutouts in
      anchor_mode analog psp (avoid_cutouts_of restored w h cutouts) g w h (reusable_top_of picture) k0 cutouts

module _ (p : Preset) (w h : Float) (cutouts : List Rect) (picture : Rect) where
  pub arranged_mode : OfMode (analog_of p) p.psp (arrangement_for p w h cutouts picture)
  arranged_mode = arrangement_mode p.analog p.psp (maximum_of p) w h cutouts picture (area_for p w h cutouts picture) (plain_of p)

  pub placed_mode : OfMode (analog_of p) p.psp (placed_for p w h cutouts picture)
  placed_mode =
      let settled = settled_mode w h cutouts picture (analog_of p) p.psp _ arranged_mode (saved_list p) in
      place_mode (analog_of p) p.psp _ settled (area_for p w h cutouts picture) (p.overlap || maximum_of p) p.scale p.offset (aspect_of p.psp)

  laid_out_mode : OfMode (analog_of p) p.psp (laid_out_of p w h cutouts picture)
  laid_out_mode =
      laid_out_case p w h cutouts picture (OfMode (analog_of p) p.psp) placed_mode (λ t. landscape_formed _ _ _ placed_mode w h (area_for p w h cutouts picture) (aspect_of p.psp))

module _ (p : Preset) (w h : Float) (cutouts : List Rect) (picture : Rect) where
  pub layout_mode : OfMode (analog_of p) p.psp (layout_in_of p w h cutouts picture)
  unfolding layout_in_of
  layout_mode = laid_out_mode p (max_of w k1) (max_of h k1) cutouts picture

  viewport_mode : (reusable covered : Float) → OfMode (analog_of p) p.psp (viewport_layout_of p w h picture reusable covered cutouts)
  unfolding viewport_layout_of anchor_toolbar_of
  viewport_mode reusable covered = either (OfMode (analog_of p) p.psp) (lt k0 covered) layout_mode layout_mode

module _ (s : Settings) where
  pub settings_mode : OfMode (analog_of s.preset) s.preset.psp (settings_layout_of s)
  unfolding settings_layout_of
  settings_mode = layout_mode _ _ _ _ _

  pub settings_few : Few (settings_layout_of s)
  settings_few = few (analog_of s.preset) s.preset.psp (settings_layout_of s) settings_mode

  module _ (reusable covered : Float) where
    pub settings_viewport_mode : OfMode (analog_of s.preset) s.preset.psp (settings_viewport_of s reusable covered)
    unfolding settings_viewport_of
    settings_viewport_mode = viewport_mode _ _ _ _ _ reusable covered

    pub viewport_few : Few (settings_viewport_of s reusable covered)
    viewport_few = few (analog_of s.preset) s.preset.psp (settings_viewport_of s reusable covered) settings_viewport_mode
