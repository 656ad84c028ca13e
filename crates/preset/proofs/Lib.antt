pub mod PresetCases
pub mod PresetLabels
pub mod PresetRanges
pub mod PresetWidest
