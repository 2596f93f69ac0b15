pub mod HeldSteps
pub mod TypesAgainst
pub mod PushLaws
