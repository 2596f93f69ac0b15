mod Limits
mod Times
mod Taken
mod Loops
mod AfterSteps
mod StepEnds
mod Parts
pub mod TidyParts
pub mod WayBack
mod RowStops
pub mod Reached
pub mod Solving
pub mod Refusals
