-- What is trusted, in reading order: parts of texts, numbers and names as they are written, words of sizes,
-- and the sizes of a program's base units.
pub mod Parts
pub mod NumberTexts
pub mod NameTexts
pub mod ScaleWords
pub mod BaseSizes
-- What mirrors the code.
pub mod Adding
pub mod Setting
