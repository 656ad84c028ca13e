-- `Preset::layout_in` and `layout_with_cutouts` of input.rs, and `PlayerViewport::layout`; the first steps are in crate `arrangement_choice`.
use Rattle.std.specs.Prelude.{Bool, true, false, cond, not, ◌&&◌, ◌||◌, List, Float}
use Rattle.std.specs.Float.Ieee.{lt}
use Rattle.prelude.specs.Lists.{is_empty}
use Rattle.float.specs.Float.{k0, k1}
use Rattle.float.specs.MinMax.{max_of}
use Rattle.geometry.specs.declared.Rect.{Rect}
use Rattle.geometry.specs.Rect.{new_of}
use Rattle.layout.specs.declared.Layout.{Layout}
use Rattle.layout.specs.Layout.{cutout_list}
use Rattle.search.specs.Search.{place_game_in_aspect_of, aspect_of}
use Rattle.settings.specs.declared.PictureFit.{PictureFit}
use Rattle.settings.specs.declared.PictureFit.TheVariants.{Maximum, KeepClear}
use Rattle.settings.specs.declared.Preset.{Preset}
use Rattle.settings.specs.declared.Settings.{Settings}
use Rattle.settings.specs.Settings.{saved_list, untouched_of, picture_fit_of}
use Rattle.saved.specs.Saved.{with_saved_of}
use Rattle.toolbar.specs.Toolbar.{anchor_toolbar_of, reusable_top_of}
use Rattle.cutouts.specs.Cutouts.{avoid_cutouts_of}
use Rattle.landscape.specs.Landscape.{fit_landscape_controls_of}
use Rattle.arrangement_choice.specs.Choice.{first_of, area_of, arrangement_of}

-- the elements where they stay: the saved ones at their places, all clear of cutouts, the toolbar anchored
unfoldable pub settled_of : Layout → Float → Float → List Rect → Rect → List Rect → Layout
settled_of layout w h cutouts picture saved =
    let restored = with_saved_of layout w h saved in
    anchor_toolbar_of (avoid_cutouts_of restored w h cutouts) w h (reusable_top_of picture) k0 cutouts

-- `picture_fit() == PictureFit::Maximum`
abbrev pub is_maximum_of : PictureFit → Bool
is_maximum_of Maximum = true
is_maximum_of KeepClear = false

abbrev pub maximum_of : Preset → Bool
maximum_of p = is_maximum_of (picture_fit_of p)

-- nothing was saved, and no overlap asked for
abbrev pub plain_of : Preset → Bool
plain_of p = is_empty (saved_list p) && not p.overlap

-- the Rust's `analog`: a psp has a stick, whatever its other mark says
abbrev pub analog_of : Preset → Bool
analog_of p = p.analog || p.psp

-- the keys beside the sticks may go into a row
unfoldable pub row_allowed_of : Preset → List Rect → Bool
row_allowed_of p cutouts = analog_of p && (plain_of p && (not (maximum_of p) && (untouched_of p && is_empty cutouts)))

-- on a screen of 1 by 1 at least
unfoldable pub laid_out_of : Preset → Float → Float → List Rect → Rect → Layout
laid_out_of p w h cutouts picture =
    let aspect = aspect_of p.psp in
    let maximum = maximum_of p in
    let first = first_of p.analog p.psp maximum w h cutouts picture in
    let area = area_of first maximum picture in
    let arrangement = arrangement_of first (analog_of p) p.psp maximum (plain_of p) w h cutouts area in
    let settled = settled_of arrangement w h cutouts picture (saved_list p) in
    let placed = place_game_in_aspect_of settled area (p.overlap || maximum) p.scale p.offset aspect in
    cond (row_allowed_of p cutouts) (fit_landscape_controls_of placed w h area aspect) placed

-- A screen may be 1 pixel wide for a moment; saved controls stay safe then.
unfoldable pub layout_in_of : Preset → Float → Float → List Rect → Rect → Layout
layout_in_of p w h cutouts picture = laid_out_of p (max_of w k1) (max_of h k1) cutouts picture

abbrev pub layout_with_cutouts_of : Preset → Float → Float → List Rect → Layout
layout_with_cutouts_of p w h cutouts = layout_in_of p w h cutouts (new_of k0 k0 (max_of w k1) (max_of h k1))

-- `PlayerViewport::layout`: the toolbar is anchored on the screen as it was given, and moves below what covers it for a while; the game stays
unfoldable pub viewport_layout_of : Preset → Float → Float → Rect → Float → Float → List Rect → Layout
viewport_layout_of p w h picture reusable covered cutouts =
    let anchored = anchor_toolbar_of (layout_in_of p w h cutouts picture) w h reusable k0 cutouts in
    cond (lt k0 covered) (anchor_toolbar_of anchored w h reusable covered cutouts) anchored

-- ---- of the settings that an order gives

-- Without tag 2 the reader gives the picture 0, 0, max(w, 1), max(h, 1), and this is `layout_with_cutouts`.
unfoldable pub settings_layout_of : Settings → Layout
settings_layout_of s = layout_in_of s.preset s.w s.h (cutout_list s.cutouts) s.picture

-- A viewport's controls have the screen of tag 1, its picture is tag 2.
unfoldable pub settings_viewport_of : Settings → Float → Float → Layout
settings_viewport_of s reusable covered =
    viewport_layout_of s.preset s.w s.h s.picture reusable covered (cutout_list s.cutouts)
