-- What a reader must trust, in reading order: the rules of nodes, the equations of a function, solutions, what a
-- function is answered, the types of its nodes.
pub mod Rules
pub mod Derivation
pub mod Equations
pub mod Solutions
pub mod FirstUnsolvable
pub mod Generalised
pub mod Judgement
pub mod RightShapes
pub mod NodeTypes
pub mod Answers
-- What the definitions come to: statements, each proved as the contract of a function of src/laws.rt.
pub mod Laws
-- What mirrors the code: rows pushed for steps, the derivation as it is walked.
pub mod Operations
pub mod Walk
pub mod Reached
pub mod Closed
pub mod Body
pub mod Kept
