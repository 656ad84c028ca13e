pub mod ReadBack
mod PlusZero
pub mod WidestWritten
pub mod Owned
