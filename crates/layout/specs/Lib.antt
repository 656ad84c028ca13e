pub mod Label
pub mod Layout
pub mod Elements
pub mod Labels
pub mod Actions
pub mod Psp
