pub mod EditSteps
pub mod EditLaws
pub mod SearchLaws
