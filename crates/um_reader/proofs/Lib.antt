pub mod Reaching
pub mod Texts
pub mod Readers
pub mod Answers
pub mod Loop
