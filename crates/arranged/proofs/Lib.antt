pub mod ControlLaws
pub mod ArrangedLabels
pub mod ArrangedRanges
