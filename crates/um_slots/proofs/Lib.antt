pub mod Parts
pub mod KeyOrder
pub mod TableLaws
pub mod SlotsLeft
pub mod ParameterSlots
pub mod RenamingLaws
mod InputLoops
pub mod InputTexts
mod ClosedUnits
