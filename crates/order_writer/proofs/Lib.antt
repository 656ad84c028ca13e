pub mod Made
pub mod Owned
pub mod Replaced
pub mod NumbersLaws
pub mod FromNumbers
