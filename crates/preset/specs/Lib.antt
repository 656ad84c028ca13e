pub mod Preset
pub mod Demand
pub mod Promises
