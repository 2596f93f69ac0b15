mod Below
mod Nests
mod Fitting
mod Passed
mod Nodes
mod JoinedStacks
mod KeptJoins
mod SameShapes
pub mod Growth
