pub mod Rect
pub mod Offset
