pub mod Counts
pub mod Words
mod Examples
