-- What is trusted: the image of a program, the bytes of an image, and where other bytes are refused.
pub mod ProgramImage
pub mod Encoding
pub mod Places
-- What the definitions come to: statements, each proved as the contract of a function of src/laws.rt.
pub mod Laws
-- What mirrors the code.
pub mod Pieces
pub mod Reading
pub mod FunctionsRead
pub mod HeadsMade
