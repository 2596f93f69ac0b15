-- What is trusted: the shapes of records and their heights, the first fault of a program, and what a shaped program
-- promises.
pub mod RecordShapes
pub mod FirstFault
pub mod ShapedProgram
-- What the definitions come to: statements, each proved as the contract of a function of src/laws.rt.
pub mod Laws
-- What mirrors the code: the shapes and heads that it keeps, its answers, and that notes are low enough to be kept.
pub mod FlatShapes
pub mod Stops
pub mod LowNotes
pub mod Signatures
