pub mod Defaults
pub mod Controls
