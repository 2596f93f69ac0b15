pub mod Ends
pub mod Rank
pub mod ExampleCode
mod Examples
mod ExampleSteps
