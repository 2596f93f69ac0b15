-- The definitions, in the order in which they are to be read.
pub mod Pivot
pub mod Quotients
