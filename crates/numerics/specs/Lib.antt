pub mod Value
pub mod Range
pub mod Rects
