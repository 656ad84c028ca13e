pub mod Signs
pub mod Literals
pub mod Order
pub mod Nan
pub mod Ends
pub mod Patterns
