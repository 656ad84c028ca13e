pub mod Tenths
