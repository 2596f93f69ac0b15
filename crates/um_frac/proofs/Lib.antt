pub mod Gcd
pub mod Integers
pub mod WideProducts
pub mod LowestTerms
pub mod Powers
pub mod SumTerms
pub mod ProductTerms
pub mod Outcomes
pub mod WholePowers
pub mod FractionLaws
mod PowerExamples
