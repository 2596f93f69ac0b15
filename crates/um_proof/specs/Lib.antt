-- What a reader must trust, in the order in which it is to be read: what the calls answer.
pub mod Answers
pub mod Proving
-- What the equations of a program hold, and what valid certificates show: statements, each proved as the contract of a
-- function of src/laws.rt.
pub mod EquationLaws
pub mod Laws
-- What mirrors the code.
pub mod Steps
pub mod Renaming
pub mod ProgramSteps
