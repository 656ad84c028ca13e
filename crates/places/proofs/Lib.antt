pub mod PlaceLabels
pub mod PlaceRanges
pub mod Mapped
