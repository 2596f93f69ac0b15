-- What a reader must trust, in the order in which it is to be read.
pub mod Form
pub mod Matching
pub mod Instances
pub mod Answers
pub mod SignatureNames
pub mod Reading
-- What these definitions come to: statements, each proved as the contract of a function of src/laws.rt.
pub mod Laws
-- What mirrors the code.
pub mod Steps
pub mod ReadingSteps
pub mod Heads
