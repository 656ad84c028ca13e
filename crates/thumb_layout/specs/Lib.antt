pub mod Interface
pub mod Promises
