-- What a reader must trust, in the order in which it is to be read: what making goes through and the numbers that it
-- forms, and what the calls answer.
pub mod Kept
pub mod Formed
pub mod Answers
-- What mirrors the code.
pub mod Steps
