-- What a reader must trust, in reading order: the units of a word as they are written, those that they stand for in a
-- program, and the texts of values with them.
pub mod UnitWords
pub mod DisplayUnits
pub mod DisplayText
pub mod Laws
-- What mirrors the code.
pub mod PartView
