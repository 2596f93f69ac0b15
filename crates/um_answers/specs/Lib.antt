-- What a reader must trust, in reading order: the answer to each order about a text, and when it is done.
pub mod TypesAnswer
pub mod CodeAnswer
pub mod FmtAnswer
pub mod TidyAnswer
pub mod ConformAnswer
pub mod RescaleAnswer
pub mod ProveAnswer
pub mod ImageAnswer
pub mod AnnotAnswer
pub mod Laws
pub mod Passing
-- What mirrors the code.
pub mod AnnotSteps
