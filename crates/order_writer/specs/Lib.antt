pub mod OrderBytes
pub mod Numbers
