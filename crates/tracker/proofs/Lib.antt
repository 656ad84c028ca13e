pub mod CallLaws
pub mod TrackerLaws
