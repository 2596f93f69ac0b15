mod Examples
pub mod HeldNodes
pub mod PutTypes
pub mod Variables
pub mod SoundRules
pub mod Callees
pub mod Sound
pub mod CompleteRules
pub mod PutLiterals
pub mod Used
pub mod Complete
mod BelowRules
pub mod Below
pub mod SlotLaws
pub mod FunctionLaws
mod VariableLists
pub mod Solved
pub mod NodesBelow
pub mod SolvingLaws
pub mod NumberedSchemes
pub mod GeneralisedUnits
pub mod JudgementLaws
pub mod GeneralLaws
pub mod CallLaws
pub mod WalkLaws
pub mod NodeLaws
pub mod SliceLaws
pub mod OfferLaws
pub mod KeptParts
pub mod WalkedParts
pub mod NodeSteps
pub mod KeptNodes
pub mod SameDerivation
pub mod EquationLaws
pub mod BodyLaws
pub mod ProgramRows
mod RightShapes
pub mod TypedShapes
pub mod ProgramCalls
