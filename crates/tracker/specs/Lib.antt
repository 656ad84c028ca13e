pub mod Tracker
pub mod Runs
pub mod Promises
