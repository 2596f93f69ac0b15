-- What a reader must trust: the core of rows without a joint solution, what is told of the agreement that fails, and
-- the answer.
pub mod Core
pub mod Reasons
pub mod Answers
-- What the definitions come to: statements, each proved as the contract of a function of src/laws.rt.
pub mod CoreLaws
pub mod Laws
-- What mirrors the code: rows added one by one, the answers of the search, steps with powers of 64 bits.
pub mod Search
pub mod Wide
