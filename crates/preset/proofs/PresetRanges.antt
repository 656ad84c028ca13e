-- Every layout of `layout_in` is in range, whatever is asked for: its elements and its game, on screens up to 8192 by 8192.
use mathlib.Core.Bool.{Bool, true, false, ◌||◌, or-true}
use mathlib.Core.List.{List, [], ◌∷◌}
use lib.Dec.{T}
use lib.Ieee.{Float, lt}
use Rattle.prelude.proofs.Booleans.{either}
use Rattle.prelude.specs.Each.{Each}
use Rattle.prelude.specs.Lists.{is_empty}
use Rattle.prelude.proofs.ListLaws.{not_empty}
use Rattle.float.specs.Float.{k0}
use Rattle.geometry.specs.declared.Rect.{Rect}
use Rattle.layout.specs.declared.Layout.{Layout}
use Rattle.layout.specs.Labels.{Holds, OfMode}
use Rattle.layout.proofs.LabelLaws.{mode_holds}
use Rattle.layout.specs.Layout.{cutout_list}
use Rattle.numerics.specs.Value.{Whole}
use Rattle.numerics.specs.Rects.{Element, Area, OnScreen, Key, margin, shrunk_margin}
use Rattle.numerics.specs.Range.{In, at, minus}
use Rattle.numerics.proofs.Ranges.{max_in, from_zero, placed_element}
use Rattle.numerics.proofs.Literals.{lit}
use Rattle.layout_ranges.specs.Bounded.{Every, Bounded, Shrunk, BoundedGame}
use Rattle.search.specs.Search.{place_game_in_aspect_of, aspect_of}
use Rattle.layout_ranges.proofs.Changes.{every_imp}
use Rattle.search.proofs.Layouts.{place_bounded, place_game_in_lem}
use Rattle.settings.specs.declared.Preset.{Preset}
use Rattle.settings.specs.Settings.{saved_list}
use Rattle.saved.specs.Saved.{with_saved_of}
use Rattle.saved.proofs.SavedRanges.{saved_bounded}
use Rattle.toolbar.specs.Toolbar.{anchor_toolbar_of}
use Rattle.toolbar.proofs.ToolbarLabels.{anchor_mode}
use Rattle.toolbar.proofs.ToolbarRanges.{avoided_in, anchor_in, anchored_in, reusable_in}
use Rattle.cutouts.specs.Cutouts.{avoid_cutouts_of}
use Rattle.landscape.proofs.LandscapeRanges.{landscape_bounded, landscape_game_in}
use Rattle.arrangement_choice.specs.Choice.{area_of}
use Rattle.arrangement_choice.proofs.ChoiceCases.{whole_area}
use Rattle.arrangement_choice.proofs.ChoiceLabels.{first_mode}
use Rattle.arrangement_choice.proofs.MaximumRanges.{shape, lowered_game_in, below_toolbar_in}
use Rattle.arrangement_choice.proofs.ChoiceRanges.{avoid_in, first_in, arrangement_bounded, arrangement_in}
use Rattle.preset.specs.Preset.{settled_of, maximum_of, plain_of, analog_of, row_allowed_of, laid_out_of, layout_in_of, viewport_layout_of, settings_layout_of}
use Rattle.preset.specs.Promises.{SettingsBounded}
use Rattle.preset.proofs.PresetCases.{first_for, settled_for, placed_for, laid_out_case, RowAllowed, row_allowed_lem}
use Rattle.preset.proofs.PresetLabels.{saved_mode, arranged_mode, placed_mode, layout_mode}

-- where the toolbar was anchored anew
keys_in : {C : Rect → Type 0} {l : Layout} → Every C (Key margin) l → Every C Element l
keys_in L = every_imp (λ r P. P) (λ r P. placed_element P tt) L

module _ {w h : Float} (W : In w (at 1) (at 8192)) (H : In h (at 1) (at 8192)) {picture : Rect} (A : Area picture) where
  settled_bounded : (cutouts : List Rect) → Each Element cutouts → (analog psp : Bool) (l : Layout) → OfMode analog psp l → Bounded l → (saved : List Rect) → Bounded (settled_of l w h cutouts picture saved)
  unfolding settled_of
  settled_bounded cutouts O analog psp l f L saved =
      let restored = with_saved_of l w h saved in
      let J = mode_holds analog psp l f in
      let K = mode_holds analog psp restored (saved_mode analog psp l f w h saved) in
      keys_in (anchored_in _ cutouts (from_zero W) (from_zero H) (reusable_in A) O (avoid_in W H cutouts restored K (saved_bounded W H l J.controls J.sticks L saved)))

  -- ---- with no cutouts and nothing saved no element moves
  settled_in : (saved : List Rect) → T (is_empty saved) → {l : Layout} → Shrunk l → Every (OnScreen shrunk_margin) Element (settled_of l w h [] picture saved)
  unfolding settled_of with_saved_of avoid_cutouts_of
  settled_in [] t L = keys_in (anchored_in _ [] (from_zero W) (from_zero H) (reusable_in A) tt L)
  settled_in (r ∷ rs) t L = absurd (not_empty r rs t)

  pub row_in : (p : Preset) (cutouts : List Rect) → Each Element cutouts → T (row_allowed_of p cutouts) → Every (OnScreen shrunk_margin) Element (placed_for p w h cutouts picture)
  row_in p cutouts O t = go cutouts O (row_allowed_lem p cutouts t)
    where
      go : (cutouts : List Rect) → Each Element cutouts → RowAllowed p cutouts → Every (OnScreen shrunk_margin) Element (placed_for p w h cutouts picture)
      go [] O a = place_bounded (settled_in (saved_list p) a.saved (arrangement_in W H A (analog_of p) p.psp (maximum_of p) (plain_of p) a.fit (first_in W H A [] tt p.analog p.psp (maximum_of p)))) _ _ _ _ _
      go (c ∷ cs) O a = absurd (not_empty c cs a.clear)

  -- ---- the layout
  module _ (p : Preset) (cutouts : List Rect) (O : Each Element cutouts) where
    pub settled_layout : Bounded (settled_for p w h cutouts picture)
    settled_layout =
        let first = first_for p w h cutouts picture in
        let F = first_in W H A cutouts O p.analog p.psp (maximum_of p) in
        let f = first_mode p.analog p.psp (maximum_of p) w h cutouts picture in
        settled_bounded cutouts O (analog_of p) p.psp _ (arranged_mode p w h cutouts picture) (arrangement_bounded W H A cutouts O (analog_of p) p.psp first F f (maximum_of p) (plain_of p)) (saved_list p)

    pub placed_holds : Holds (placed_for p w h cutouts picture)
    placed_holds = mode_holds (analog_of p) p.psp (placed_for p w h cutouts picture) (placed_mode p w h cutouts picture)

    laid_out_bounded : Bounded (laid_out_of p w h cutouts picture)
    laid_out_bounded =
        laid_out_case p w h cutouts picture Bounded (place_bounded settled_layout _ _ _ _ _)
        (λ t. landscape_bounded (placed_for p w h cutouts picture) placed_holds.controls placed_holds.stick (row_in p cutouts O t) W H _ _)

    module _ (scale : Whole p.scale) (across : Whole p.offset.x) (down : Whole p.offset.y) where
      placed_game : (maximum overlap : Bool) (l first : Layout) → Bounded l → Shrunk first → BoundedGame (place_game_in_aspect_of l (area_of first maximum picture) (overlap || maximum) p.scale p.offset (aspect_of p.psp)).game
      unfolding area_of place_game_in_aspect_of
      placed_game true overlap l first L F = rw (or-true overlap) (lowered_game_in p.psp (below_toolbar_in F A) p.scale scale p.offset across down)
      placed_game false overlap l first L F = place_game_in_lem (shape p.psp) l L A p.offset across down (overlap || false) p.scale scale

      laid_out_game : BoundedGame (laid_out_of p w h cutouts picture).game
      laid_out_game =
          let G = placed_game (maximum_of p) p.overlap (settled_for p w h cutouts picture) _ settled_layout (first_in W H A cutouts O p.analog p.psp (maximum_of p)) in
          laid_out_case p w h cutouts picture (λ m. BoundedGame m.game) G
          (λ t. landscape_game_in (placed_for p w h cutouts picture) placed_holds.controls placed_holds.stick (row_in p cutouts O t) W H (shape p.psp) (rw (whole_area _ (maximum_of p) picture (row_allowed_lem p cutouts t).fit) A) G)

-- ---- `layout_in` and `PlayerViewport::layout`
module _ (p : Preset) {w h : Float} (W : In w (at 0) (at 8192)) (H : In h (at 0) (at 8192)) (cutouts : List Rect) (O : Each Element cutouts) {picture : Rect} (A : Area picture) where
  pub layout_bounded : Bounded (layout_in_of p w h cutouts picture)
  unfolding layout_in_of
  layout_bounded = laid_out_bounded (max_in W (lit 1)) (max_in H (lit 1)) A p cutouts O

  pub game_bounded : Whole p.scale → Whole p.offset.x → Whole p.offset.y → BoundedGame (layout_in_of p w h cutouts picture).game
  unfolding layout_in_of
  game_bounded scale across down = laid_out_game (max_in W (lit 1)) (max_in H (lit 1)) A p cutouts O scale across down

  -- of a viewport, for the reader: no proof cites these two laws
  pub viewport_bounded : {reusable covered : Float} → In reusable (at 0) (at 8192) → In covered (minus 8192) (at 8192) → Bounded (viewport_layout_of p w h picture reusable covered cutouts)
  unfolding viewport_layout_of
  viewport_bounded {reusable} {covered} R C =
      let l = layout_in_of p w h cutouts picture in
      let anchored = anchor_toolbar_of l w h reusable k0 cutouts in
      let K = mode_holds (analog_of p) p.psp anchored (anchor_mode (analog_of p) p.psp l (layout_mode p w h cutouts picture) w h reusable k0 cutouts) in
      let L = keys_in (anchored_in l cutouts W H R O layout_bounded) in
      either Bounded (lt k0 covered) (keys_in (anchor_in anchored cutouts W H R C (avoided_in anchored covered cutouts K.controls K.sticks L O) L)) L

  pub viewport_game_bounded : (reusable covered : Float) → Whole p.scale → Whole p.offset.x → Whole p.offset.y → BoundedGame (viewport_layout_of p w h picture reusable covered cutouts).game
  unfolding viewport_layout_of anchor_toolbar_of
  viewport_game_bounded reusable covered scale across down = let G = game_bounded scale across down in either (λ (m : Layout). BoundedGame m.game) (lt k0 covered) G G

-- what a film sheet asks
pub settings_bounded : SettingsBounded
unfolding settings_layout_of
settings_bounded s r =
    let cutouts = cutout_list s.cutouts in
    (layout_bounded s.preset r.w r.h cutouts r.cutouts r.area, game_bounded s.preset r.w r.h cutouts r.cutouts r.area r.scale r.offset_x r.offset_y)
