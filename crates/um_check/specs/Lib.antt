-- What a reader must trust, in the order in which it is to be read.
pub mod Combination
pub mod Validity
pub mod Refutation
pub mod Existence
pub mod Tidy
-- What these definitions come to: statements, each proved as the contract of a function of src/laws.rt.
pub mod Laws
-- What mirrors the code.
pub mod PartCode
pub mod Tests
