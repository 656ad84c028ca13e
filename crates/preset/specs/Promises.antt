-- What may be counted on, of the numbers of a layout; proved in `proofs/PresetRanges.antt`.
use Rattle.layout_ranges.specs.Bounded.{Bounded, BoundedGame}
use Rattle.settings.specs.declared.Settings.{Settings}
use Rattle.settings_ranges.specs.InRange.{InRange}
use Rattle.preset.specs.Preset.{settings_layout_of}

-- Of settings in range, as accepted ones are, every element of the layout is in range, and its game.
abbrev pub SettingsBounded : Type 0
SettingsBounded = (s : Settings) → InRange s → Bounded (settings_layout_of s) × BoundedGame (settings_layout_of s).game
