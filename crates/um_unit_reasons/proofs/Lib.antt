pub mod LoopSteps
pub mod NameSteps
pub mod NamedSteps
pub mod RowSteps
pub mod OtherSteps
pub mod TellingSteps
pub mod FailingSteps
pub mod SlotFacts
mod FunctionFacts
pub mod UniqueReasons
mod WideRows
mod EachCore
mod EachReason
mod Examples
