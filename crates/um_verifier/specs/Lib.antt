-- What a reader must trust: why an image is refused, which calls it has, and what their results are.
pub mod Refusals
pub mod Calls
-- What refusals come to: statements, each proved as the contract of a function of src/laws.rt.
pub mod Laws
-- What mirrors the code: shapes and tables as they are kept, and what is known after some heads.
pub mod Tables
pub mod KnownImages
pub mod States
pub mod Points
pub mod Bodies
pub mod Names
pub mod KnownHeads
