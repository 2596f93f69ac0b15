pub mod ShowStatuses
pub mod ShowOnce
pub mod ShowDone
mod TracePlaces
mod Stops
mod CallLines
pub mod TraceAnswers
mod Runs
