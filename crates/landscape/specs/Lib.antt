pub mod Landscape
