-- Inner functions of the code that the Rust does not have.
use Rattle.std.specs.Prelude.{Float}
use Rattle.geometry.specs.declared.Rect.{Rect}
use Rattle.layout.specs.declared.Layout.{Layout}
use Rattle.places.specs.Places.{analog_controller_of}
use Rattle.arranged.specs.Arranged.{finished_of}
use Rattle.defaults.specs.Defaults.{clear_game_of, size_halves_of, measure_halves_of, half_places_of, half_dpad, half_left_stick, half_right_stick}

-- controls with the toolbar at its place and the largest game in the picture's area
abbrev pub finished_in_of : Layout → Float → Float → Rect → Layout
finished_in_of controls w h picture = clear_game_of (finished_of controls w h) picture

-- the controls of `analog_full_of`, without toolbar and game (`full_bare` of proofs/Anew)
unfoldable pub analog_controls_of : Float → Float → Layout
analog_controls_of w h =
    let b = measure_halves_of w h (size_halves_of w h) in
    analog_controller_of (half_places_of b) (half_dpad b) (half_left_stick b) (half_right_stick b)
