pub mod OrderWords
pub mod LineWords
