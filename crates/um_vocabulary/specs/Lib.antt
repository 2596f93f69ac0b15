-- To be trusted: the reserved words and the symbols, and the text of each.
pub mod Vocabulary
-- What mirrors the code: the tables in which they are found.
pub mod Tables
