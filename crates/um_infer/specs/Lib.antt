-- What a reader must trust, in reading order: the functions judged in order, what their schemes promise, calls, and
-- what solved the equations of each function.
pub mod Inference
pub mod Schemes
pub mod CallJudgement
pub mod SolvedPrograms
-- What the definitions come to: statements, each proved as the contract of a function of src/laws.rt.
pub mod Laws
pub mod Answers
-- What mirrors the code: what a refusal becomes, and the steps from rows to a scheme.
pub mod Refusals
pub mod Forming
