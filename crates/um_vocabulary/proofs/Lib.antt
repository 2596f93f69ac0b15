pub mod Bools
pub mod Tables
mod Keywords
