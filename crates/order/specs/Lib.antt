pub mod Orders
pub mod Demands
pub mod Promises
