pub mod SchemeLists
pub mod PrincipalSchemes
mod Stops
mod ManySlots
pub mod InferenceLaws
pub mod CallTypes
pub mod AnswerLaws
pub mod FormingSteps
pub mod GeneralSteps
mod AbsentVariables
pub mod SmallSchemes
pub mod Judged
mod ProgramSteps
mod Examples
pub mod Prefix
pub mod SameEquations
pub mod GivenSchemes
pub mod SchemeJudgements
mod SolvedFunctions
mod ReplacedSteps
mod OtherHoles
mod AnySchemes
