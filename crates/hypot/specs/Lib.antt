pub mod Hypot
pub mod Pattern
pub mod Nearest
pub mod Parts
