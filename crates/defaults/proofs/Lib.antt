pub mod DefaultCases
pub mod DefaultLabels
pub mod ControlLaws
pub mod DefaultRanges
pub mod Anew
