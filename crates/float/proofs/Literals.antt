-- Each literal of the source is the f32 nearest its decimal value. For the reader: no proof cites this law.
use Rattle.std.proofs.Common.{◌≡◌, false, map, refl}
use lib.Ieee.{binary32, of_bits, round}
use Rattle.float.specs.Float.{literals}

pub literals_nearest : map (λ l. l.0) literals ≡ map (λ l. round binary32 false l.1 l.2) literals
unfolding literals of_bits round
literals_nearest = refl
