pub mod RecordNames
mod Examples
pub mod CallableNames
pub mod DistinctNames
pub mod FieldNames
pub mod BodyLists
mod JointNames
pub mod Declarations
pub mod Added
pub mod Params
pub mod ParamLoops
pub mod FieldDecls
pub mod FieldNumbers
pub mod Taken
pub mod Wholes
pub mod DeclLoops
pub mod FormedUnits
pub mod FormedTypes
pub mod FormedExprs
pub mod FormedNames
pub mod FormedMore
pub mod FormedDecls
pub mod FormedFunctions
pub mod FormedPrograms
mod KnownParts
pub mod RecordsFound
