pub mod Fields
pub mod Values
pub mod LeftOut
pub mod ReadBack
pub mod Refusals
pub mod Refused
pub mod Shortest
