mod Order
mod Isqrt
mod Value
mod Rounding
mod Floats
mod Theorem
mod Ways
pub mod Cases
mod Midpoints
pub mod AtLeast
