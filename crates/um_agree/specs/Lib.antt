-- What a reader must trust, in reading order: agreements, those of each node, those of a function, which one a row is
-- of, how they are told.
pub mod Agreements
pub mod NodeAgreements
pub mod FunctionAgreements
pub mod RowAgreements
pub mod Wording
-- What the definitions come to: statements, each proved as the contract of a function of src/laws.rt.
pub mod Laws
-- What mirrors the code: agreements by the numbers of nodes.
pub mod Asked
pub mod Made
pub mod Answers
