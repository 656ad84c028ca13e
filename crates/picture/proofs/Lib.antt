pub mod PictureCases
pub mod PictureLabels
pub mod PictureRanges
pub mod Candidates
