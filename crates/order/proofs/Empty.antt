-- Demand 3 refuses a layout that has an empty game every time: for one order of KeepClear, what would be written with an empty game does not satisfy it.
use mathlib.Core.Path.{◌≡◌, refl}
use mathlib.Core.Logic.{inl}
use mathlib.Core.List.{List, [], ◌∷◌, ◌++◌, flat_map}
use Prim.Native.Nat.{ℕ, ◌*◌, ◌^◌}
use native.Mathlib.Nat.{zero-lt-suc}
use lib.IntN.{pos}
use lib.Ieee.{of_bits, to_bits, add, sub, mul, div, le, ne}
use Rattle.prelude.specs.Answer.{Answer, accepted, refused, must}
use Rattle.prelude.specs.Each.{◌&◌}
use Rattle.prelude.specs.Lists.{map_first, tabulate}
use Rattle.float.specs.MinMax.{min_of, max_of}
use Rattle.geometry.specs.Rect.{empty_rect}
use Rattle.layout.specs.Layout.{with_game, elements_of}
use Rattle.numerics.specs.Value.{magnitude}
use Rattle.search.specs.Search.{place_game_in_aspect_of}
use Rattle.search.specs.Widest.{sixteenth}
use Rattle.toolbar.specs.Toolbar.{pass, pair_of, avoided_of, anchor_toolbar_of}
use Rattle.arranged.specs.Arranged.{finished_of, docked_of, arranged_of}
use Rattle.band.specs.Band.{find_room_of, measure_band_of, plain_places_of, banded_of, controller_band_of}
use Rattle.cutouts.specs.Cutouts.{avoid_cutouts_of}
use Rattle.saved.specs.Saved.{with_saved_of}
use Rattle.settings.specs.declared.Settings.{Settings}
use Rattle.places.specs.Places.{place_faces_of, well_faces_of, at_of, controller_of, placed_of}
use Rattle.settings.specs.Settings.{default_of, absent_of, fit_mark_of, picture_fit_of, in_limits_of, screen_in_limits_of}
use Rattle.wire.specs.Wire.{number_at_of, rect_at_of, field_value, short_bytes, written_bits_of, number_bytes, rect_bytes, head_bytes}
use Rattle.reader.specs.Order.{read_screen_of, read_fit_of, from_byte_of, read_field_of, fields, read_order_of}
use Rattle.writer.specs.Bytes.{layout_bytes}
use Rattle.written_layout.specs.Written.{written_game, written_elements}
use Rattle.arrangement_choice.specs.Choice.{arrangement_of, band_or_rails_of, area_of}
use Rattle.preset.specs.Preset.{settled_of, row_allowed_of, laid_out_of, layout_in_of, settings_layout_of}
use Rattle.order.specs.Demands.{WidestWritten}

-- document 01's screen of 1000 by 1000, with the fit KeepClear
abbrev order : List ℕ
order = 1 ∷ 0 ∷ 8 ∷ 0x44 ∷ 0x7A ∷ 0 ∷ 0 ∷ 0x44 ∷ 0x7A ∷ 0 ∷ 0 ∷ 4 ∷ 0 ∷ 1 ∷ 2 ∷ []

-- the settings that an accepted order gives
abbrev settings_in : Answer Settings → Settings
settings_in (accepted s) = s
settings_in (refused n) = absent_of

abbrev given : Settings
given = settings_in (read_order_of order)

order_accepted : read_order_of order ≡ accepted given
unfolding read_order_of fields must read_field_of from_byte_of read_screen_of read_fit_of number_at_of in_limits_of screen_in_limits_of of_bits le
order_accepted = refl

-- what would be written for it with an empty game
abbrev written : List ℕ
written = layout_bytes (with_game (settings_layout_of given) empty_rect)

-- for the reader: no proof cites this law. The rival is 400 by 300, in the middle of the area across, and 200 from its top.
pub empty_refused : (n : ℕ) (rest : List ℕ) → WidestWritten order (accepted n) (written ++ rest) → ⊥
unfolding read_order_of fields must read_field_of from_byte_of read_screen_of read_fit_of number_at_of fit_mark_of absent_of default_of in_limits_of screen_in_limits_of
    settings_layout_of layout_in_of laid_out_of settled_of row_allowed_of picture_fit_of area_of arrangement_of band_or_rails_of controller_band_of find_room_of
    measure_band_of plain_places_of banded_of arranged_of finished_of docked_of controller_of placed_of at_of place_faces_of well_faces_of with_saved_of
    avoid_cutouts_of anchor_toolbar_of avoided_of pair_of pass place_game_in_aspect_of elements_of map_first min_of max_of of_bits to_bits add sub mul div le ne
    layout_bytes head_bytes short_bytes rect_bytes number_bytes written_bits_of flat_map field_value written_game written_elements tabulate rect_at_of magnitude
    sixteenth
empty_refused n rest k =
    (k given n order_accepted refl (record { fit = refl; apart = refl; whole = refl })
    ).widest 1 (zero-lt-suc 0) (record { x = pos (300 * 2 ^ 149); y = pos (200 * 2 ^ 149); w = pos (400 * 2 ^ 149); h = pos (300 * 2 ^ 149) })
    (record { wide = tt; high = tt; shape = refl; within = tt; clear = tt & tt & tt & tt & tt & tt & tt & tt & tt & tt & tt & tt & tt & tt & tt & tt; position = inl refl })
