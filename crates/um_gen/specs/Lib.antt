-- What is trusted: the code of a program.
pub mod ProgramCode
-- What the definition comes to: statements, each proved as the contract of a function of src/laws.rt.
pub mod Laws
-- What mirrors the code: the code of expressions as its functions speak of it.
pub mod Emitting
