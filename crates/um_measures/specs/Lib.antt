-- What a reader must trust: faults, what is known, the units of unit texts, unit variables, scopes.
pub mod Faults
pub mod Known
pub mod UnitNames
pub mod Wildcards
pub mod ClosedUnits
pub mod Variables
pub mod Scopes
-- What mirrors the code: its refusals, how it stores abbreviations, the numbers of a table's names, its running
-- products, its unit texts of one name.
pub mod Stops
pub mod AbbreviationCode
pub mod NameNumbers
pub mod RunningPowers
pub mod SingleUnits
