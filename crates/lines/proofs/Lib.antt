pub mod LineLaws
pub mod EdgeLaws
pub mod Puts
mod Numbers
