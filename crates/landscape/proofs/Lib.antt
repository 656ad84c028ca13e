pub mod LandscapeLaws
pub mod LandscapeRanges
