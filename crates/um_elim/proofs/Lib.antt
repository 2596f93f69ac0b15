pub mod Cases
pub mod Filters
pub mod Shear
pub mod PivotLaws
pub mod StepLaws
pub mod EndLaws
pub mod MostGeneral
pub mod Rows
mod Examples
pub mod InRange
mod Changes
mod SingleSteps
mod NumberedAlready
mod StepsOfCode
mod LastStep
pub mod Slots
mod Added
pub mod JointRows
pub mod FirstOccurrences
pub mod RenamedUnits
pub mod NumberedTypes
pub mod GrowingOrder
pub mod VariablesKept
pub mod Holders
pub mod IndexLaws
pub mod HeldSlots
pub mod IndexStep
mod IndexBut
pub mod StepVariables
pub mod FirstIndex
pub mod SingleAtoms
pub mod FollowedSteps
mod StepExamples
