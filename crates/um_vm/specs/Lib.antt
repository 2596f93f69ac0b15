-- What is trusted: how a machine's run ends, what its steps answer, how they are counted, and which programs are run by
-- code.
pub mod Ends
pub mod Showing
pub mod Counting
pub mod Running
-- What the definitions come to: statements, each proved as the contract of a function of src/laws.rt.
pub mod Laws
-- What mirrors the code: how far a machine is.
pub mod Phases
