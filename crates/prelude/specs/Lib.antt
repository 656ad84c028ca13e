pub mod Lists
pub mod Each
pub mod Answer
pub mod Bits
