pub mod SavedLaws
pub mod SavedRanges
pub mod Ends
pub mod Turns
