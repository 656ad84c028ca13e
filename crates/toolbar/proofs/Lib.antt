pub mod ToolbarRanges
pub mod Pass
pub mod ToolbarLabels
