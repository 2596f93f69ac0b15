-- The trees: shapes on a stack, and code images.
pub mod StackShape
pub mod ImageTree
-- What is trusted: when an image is verified.
pub mod Heads
pub mod Rules
pub mod Verified
-- What the definitions come to: statements, each proved as the contract of a function of src/laws.rt.
pub mod Laws
