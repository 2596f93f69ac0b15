pub mod InputTrees
pub mod RawSizes
pub mod Budget
pub mod Equations
pub mod Growth
pub mod Homomorphisms
pub mod Below
pub mod Instantiations
pub mod Moved
pub mod WrittenUnits
pub mod TypingsMoved
pub mod Numbered
pub mod TypingLaws
pub mod ShapeLaws
pub mod BudgetLaws
pub mod ExamplePrograms
pub mod ExampleShown
mod ExampleMeanings
mod ExampleFormed
mod ExampleRuns
mod ExampleVehicle
pub mod ExampleTypings
pub mod ExampleSchemes
mod ExampleParameters
