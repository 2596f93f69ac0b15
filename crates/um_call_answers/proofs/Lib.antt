mod AddedTexts
mod Examples
pub mod Lengths
mod DifferentTexts
mod AskedCalls
mod ImageValues
mod ExecStatuses
pub mod CallStage
pub mod CallEnds
pub mod CallStatuses
pub mod UniqueReplies
pub mod CallsDone
pub mod CallsAnswers
pub mod BigAnswers
pub mod ExecAnswers
pub mod TwinArguments
pub mod TwinAnswers
pub mod TwinDone
pub mod EndsAsMeant
