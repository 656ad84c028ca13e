-- An inner function of the code that the Rust does not have.
use Rattle.std.specs.Prelude.{Bool, cond}
use Rattle.layout.specs.declared.Layout.{Layout}
use Rattle.places.specs.Places.{standard_controller_of, analog_controller_of}
use Rattle.band.specs.declared.Band.{Band}
use Rattle.band.specs.Band.{band_places_of, band_dpad, band_left_stick, band_right_stick}

-- the controls of `banded_of`, without toolbar and game (`banded_bare` of proofs/Anew)
unfoldable pub band_controls_of : Bool → Bool → Band → Layout
band_controls_of analog deep b =
    let places = band_places_of analog deep b in
    cond analog (analog_controller_of places (band_dpad b) (band_left_stick b) (band_right_stick b)) (standard_controller_of places (band_dpad b))
