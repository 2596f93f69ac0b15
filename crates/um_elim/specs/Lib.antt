-- The definitions, in the order in which they are to be read.
pub mod ElimStep
pub mod Elimination
pub mod Instances
pub mod Solution
pub mod Adding
pub mod Application
pub mod Numbering
pub mod EliminationSteps
-- What these definitions come to: statements, each proved as the contract of a function of src/laws.rt.
pub mod Laws
-- What mirrors the code.
pub mod Stops
pub mod Steps
pub mod Order
pub mod Index
