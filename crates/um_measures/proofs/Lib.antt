pub mod NameLists
pub mod Firsts
pub mod Stages
pub mod Occurrences
pub mod MeasureLists
pub mod Scopes
mod OneName
mod UnitLoops
mod NameNumbers
mod RunningProducts
pub mod BodyNotes
