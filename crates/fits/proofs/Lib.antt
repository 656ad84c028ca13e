pub mod InputLaws
pub mod Turns
