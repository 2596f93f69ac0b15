pub mod SizeFactors
pub mod Rescaled
pub mod ExprLists
pub mod TwinLaws
mod PassedNumbers
pub mod RescaledInputs
pub mod RescaledFaults
pub mod RescaledTexts
pub mod RescaledCalls
mod Examples
