pub mod Cutouts
pub mod Settled
