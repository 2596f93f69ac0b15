pub mod FunctionNames
pub mod Inputs
pub mod OneByOne
mod AddedNames
mod CallParts
pub mod CallLaws
pub mod UniqueCalls
pub mod ClosedAbbreviations
pub mod ImagePrograms
mod HeadNames
pub mod ImageCallLaws
mod PlainCopies
mod Examples
mod ImageExamples
