pub mod Items
pub mod Output
pub mod Rects
pub mod ReadBack
pub mod PlusZero
