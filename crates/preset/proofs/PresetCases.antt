-- What holds of each layout that a step of `layout_in` may take holds of the one that it takes.
use mathlib.Core.Bool.{Bool, not, ◌&&◌, ◌||◌}
use mathlib.Core.List.{List}
use lib.Dec.{T}
use lib.Ieee.{Float}
use lib.Ieee.Fits.{and_l, and_r}
use Rattle.prelude.proofs.Booleans.{by_test}
use Rattle.prelude.specs.Lists.{is_empty}
use Rattle.geometry.specs.declared.Rect.{Rect}
use Rattle.layout.specs.declared.Layout.{Layout}
use Rattle.search.specs.Search.{place_game_in_aspect_of, aspect_of}
use Rattle.settings.specs.declared.Preset.{Preset}
use Rattle.settings.specs.Settings.{saved_list, untouched_of}
use Rattle.landscape.specs.Landscape.{fit_landscape_controls_of}
use Rattle.arrangement_choice.specs.Choice.{first_of, area_of, arrangement_of}
use Rattle.preset.specs.Preset.{settled_of, maximum_of, plain_of, analog_of, row_allowed_of, laid_out_of}

-- ---- the layout after each step
module _ (p : Preset) (w h : Float) (cutouts : List Rect) (picture : Rect) where
  abbrev pub first_for : Layout
  first_for = first_of p.analog p.psp (maximum_of p) w h cutouts picture

  abbrev pub area_for : Rect
  area_for = area_of first_for (maximum_of p) picture

  abbrev pub arrangement_for : Layout
  arrangement_for = arrangement_of first_for (analog_of p) p.psp (maximum_of p) (plain_of p) w h cutouts area_for

  abbrev pub settled_for : Layout
  settled_for = settled_of arrangement_for w h cutouts picture (saved_list p)

  abbrev pub placed_for : Layout
  placed_for = place_game_in_aspect_of settled_for area_for (p.overlap || maximum_of p) p.scale p.offset (aspect_of p.psp)

  pub laid_out_case : (C : Layout → Type 0) → C placed_for → (T (row_allowed_of p cutouts) → C (fit_landscape_controls_of placed_for w h area_for (aspect_of p.psp))) → C (laid_out_of p w h cutouts picture)
  unfolding laid_out_of
  laid_out_case C q r = by_test C (row_allowed_of p cutouts) r (λ t. q)

-- ---- what is so where the keys may go into a row
pub record RowAllowed (p : Preset) (cutouts : List Rect) : Type 0 where
  pub saved : T (is_empty (saved_list p))
  pub fit : T (not (maximum_of p))
  pub clear : T (is_empty cutouts)

pub row_allowed_lem : (p : Preset) (cutouts : List Rect) → T (row_allowed_of p cutouts) → RowAllowed p cutouts
unfolding row_allowed_of
row_allowed_lem p cutouts t =
    let last : Bool = untouched_of p && is_empty cutouts in
    let tests : Bool = not (maximum_of p) && last in
    let u = and_r (analog_of p) (plain_of p && tests) t in
    let v = and_r (plain_of p) tests u in
    record {
      saved = and_l (is_empty (saved_list p)) (not p.overlap) (and_l (plain_of p) tests u);
      fit = and_l (not (maximum_of p)) last v;
      clear = and_r (untouched_of p) (is_empty cutouts) (and_r (not (maximum_of p)) last v);
    }
