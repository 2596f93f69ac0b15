mod Satisfying
pub mod CoreLemmas
mod SearchSteps
mod Growing
pub mod FirstRows
mod WideProducts
mod WideSteps
pub mod ReasonLaws
mod OthersLeft
mod Examples
