-- The definitions, in the order in which they are to be read.
pub mod Range
pub mod Gcd
pub mod Fraction
pub mod Arithmetic
pub mod Laws
