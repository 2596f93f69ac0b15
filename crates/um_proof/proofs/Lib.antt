mod Lacks
mod NodeRules
mod Derivations
mod Elimination
pub mod Inferred
mod General
mod HeldVariables
pub mod Renamed
pub mod FunctionRows
pub mod FunctionAnswers
mod WayBackSteps
mod Closed
mod DeclaredUnits
pub mod Judged
pub mod TidyYes
pub mod ValidYes
pub mod ValidNo
mod CertifiedTypings
mod Instantiated
mod Products
mod MovedTypes
mod Rigid
mod Certified
