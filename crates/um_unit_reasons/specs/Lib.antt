-- What a reader must trust: the names and the letters of variables, the texts of types, and what is told.
pub mod VariableNames
pub mod TypeTexts
pub mod UnitReasons
-- That each refusal has its reason: statements, each proved as the contract of a function of src/laws.rt.
pub mod Laws
-- What mirrors the code: what is found on the way.
pub mod Answers
