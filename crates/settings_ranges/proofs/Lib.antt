pub mod SettingsRanges
