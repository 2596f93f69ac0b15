-- What a reader must trust, in reading order: what is told of a node without a shape, what the rule of each node asks
-- for, and the first such node of a program.
pub mod Mismatch
pub mod NodeRules
pub mod ShapeDetails
-- What the definitions come to: statements, each proved as the contract of a function of src/laws.rt.
pub mod Laws
-- What mirrors the code: the shapes that it keeps, and its answers.
pub mod FlatShapes
pub mod Answers
