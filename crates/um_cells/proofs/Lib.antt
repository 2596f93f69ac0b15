pub mod Denoting
mod Tests
mod Growing
pub mod WellFormed
mod Adding
mod Rows
mod Operating
mod Walking
mod Exact
