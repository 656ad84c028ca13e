-- Demand 3: the game of `layout_in` is the widest picture, where the fit is KeepClear, without overlap, at size factor 1.
use mathlib.Core.Path.{◌≡◌, subst}
use mathlib.Core.Bool.{false, ◌||◌}
use mathlib.Core.List.{List}
use lib.Ieee.{Float}
use Rattle.prelude.specs.Each.{Each}
use Rattle.float.specs.Float.{k1}
use Rattle.geometry.specs.declared.Rect.{Rect}
use Rattle.layout.specs.declared.Layout.{Layout}
use Rattle.layout.specs.Layout.{cutout_list}
use Rattle.numerics.specs.Value.{Whole}
use Rattle.numerics.specs.Rects.{Element, Area}
use Rattle.numerics.specs.Range.{In, at}
use Rattle.numerics.proofs.Ranges.{max_in}
use Rattle.numerics.proofs.Literals.{lit}
use Rattle.layout_ranges.specs.Bounded.{Bounded}
use Rattle.search.specs.Search.{place_game_in_aspect_of, aspect_of}
use Rattle.search.proofs.Layouts.{place_widest}
use Rattle.settings.specs.declared.PictureFit.TheVariants.{KeepClear}
use Rattle.settings.specs.declared.Preset.{Preset}
use Rattle.settings.specs.declared.Settings.{Settings}
use Rattle.settings.specs.Settings.{picture_fit_of}
use Rattle.settings_ranges.specs.InRange.{InRange}
use Rattle.landscape.proofs.LandscapeRanges.{landscape_widest}
use Rattle.arrangement_choice.proofs.ChoiceCases.{whole_area}
use Rattle.arrangement_choice.proofs.MaximumRanges.{shape}
use Rattle.preset.specs.Demand.{WidestPicture, WidestFor}
use Rattle.preset.specs.Preset.{maximum_of, laid_out_of, layout_in_of, settings_layout_of}
use Rattle.preset.proofs.PresetCases.{area_for, settled_for, placed_for, laid_out_case}
use Rattle.preset.proofs.PresetRanges.{row_in, settled_layout, placed_holds}

module _ (p : Preset) (fit : picture_fit_of p ≡ KeepClear) (overlap : p.overlap ≡ false) (scale : p.scale ≡ k1) (across : Whole p.offset.x) (down : Whole p.offset.y) where
  placed_widest : (l : Layout) → Bounded l → {area : Rect} → Area area → WidestPicture p.psp area (place_game_in_aspect_of l area (p.overlap || maximum_of p) p.scale p.offset (aspect_of p.psp))
  placed_widest l L A = rw (fit, overlap, scale) (place_widest (shape p.psp) l L A p.offset across down)

  laid_out_widest : {w h : Float} → In w (at 1) (at 8192) → In h (at 1) (at 8192) → (cutouts : List Rect) → Each Element cutouts → {picture : Rect} → Area picture → WidestPicture p.psp picture (laid_out_of p w h cutouts picture)
  laid_out_widest {w} {h} W H cutouts O {picture} A =
      let area = area_for p w h cutouts picture in
      let same : area ≡ picture = whole_area _ (maximum_of p) picture (rw fit tt) in
      let whole : Area area = rw same A in
      let K = placed_holds W H A p cutouts O in
      let G = placed_widest (settled_for p w h cutouts picture) (settled_layout W H A p cutouts O) whole in
      subst (λ (b : Rect). WidestPicture p.psp b (laid_out_of p w h cutouts picture)) same
      (laid_out_case p w h cutouts picture (WidestPicture p.psp area) G (λ t. landscape_widest (placed_for p w h cutouts picture) K.controls K.stick (row_in W H A p cutouts O t) W H (shape p.psp) whole G))

pub settings_widest : (s : Settings) → InRange s → WidestFor s (settings_layout_of s)
unfolding settings_layout_of layout_in_of
settings_widest s r k = laid_out_widest s.preset k.fit k.apart (r.whole_size k.whole) r.offset_x r.offset_y (max_in r.w (lit 1)) (max_in r.h (lit 1)) (cutout_list s.cutouts) r.cutouts r.area
