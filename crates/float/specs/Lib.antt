pub mod Float
pub mod MinMax
