pub mod Length
pub mod Made
