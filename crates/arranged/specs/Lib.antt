pub mod Arranged
pub mod Controls
