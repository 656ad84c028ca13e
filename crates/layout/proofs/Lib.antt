pub mod ElementLaws
pub mod SetElementLaws
pub mod ActionLaws
pub mod PspLaws
pub mod LabelLaws
pub mod ArrayLaws
pub mod Names
pub mod Found
