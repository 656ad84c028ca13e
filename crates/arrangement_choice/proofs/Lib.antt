pub mod ChoiceCases
pub mod ChoiceLabels
pub mod MaximumRanges
pub mod ChoiceRanges
pub mod Keys
