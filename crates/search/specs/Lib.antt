pub mod Search
pub mod Widest
