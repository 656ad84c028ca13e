pub mod Floors
pub mod TenthsLaws
pub mod SpanLaws
mod Patterns
mod Machine
