pub mod AddedTexts
pub mod SameFlat
pub mod Stopping
pub mod AllTold
pub mod FieldShapes
pub mod RulesAgree
pub mod FaultsTold
pub mod Examples
