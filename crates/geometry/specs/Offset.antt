-- `game_offset` of input.rs.
use Rattle.float.specs.Float.{k0_5}
use Rattle.geometry.specs.declared.Offset.{Offset}

-- `[0.5; 2]`
abbrev pub centred : Offset
centred = record { x = k0_5; y = k0_5 }
