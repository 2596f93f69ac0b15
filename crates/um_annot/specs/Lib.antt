-- What a reader must trust, in reading order: the nodes of a derivation, their order in the text, the types that a
-- function's nodes are given.
pub mod TypingNodes
pub mod TextOrder
pub mod Annotated
pub mod Answers
-- What the definitions come to: statements, each proved as the contract of a function of src/laws.rt.
pub mod Laws
-- What mirrors the code.
pub mod Placing
