-- What a reader must trust, in reading order: what follows a report line, stage by stage, and the answer to `explain`.
pub mod TokenRest
pub mod NameRest
pub mod UnitsDetails
pub mod SchemeRest
pub mod Stages
pub mod ExplainAnswer
-- What the definitions come to: statements, proved as the contract of a function of src/laws.rt.
pub mod Laws
-- What mirrors the code.
pub mod Added
