pub mod Integers
pub mod Rounding
pub mod Operations
pub mod Bounds
pub mod Ranges
pub mod Products
pub mod Literals
pub mod Shrunk
