mod Examples
pub mod Ordered
mod NodeLists
mod PlacedNodes
mod AnnotSteps
mod Functions
mod SoundNodes
mod CompleteNodes
mod FunctionNodes
pub mod PrincipalNodes
