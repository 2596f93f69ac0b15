-- What a reader must trust, in reading order: words and their texts, which of them could stand at a place, texts
-- without tokens, limits, and tokens that are no program.
pub mod Words
pub mod Expected
pub mod TextDetails
pub mod LimitDetails
pub mod OpenLets
pub mod SyntaxDetails
-- What the definitions come to: statements, proved as the contract of a function of src/laws.rt.
pub mod Laws
-- What mirrors the code.
pub mod Trials
pub mod Stops
