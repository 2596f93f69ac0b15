pub mod Integers
pub mod Weights
pub mod Equality
pub mod Group
pub mod Replacement
pub mod Variables
pub mod InRange
pub mod Solutions
mod AtomOrder
mod Nonzero
mod MergeLemmas
mod WidePowers
mod WideMerge
mod PowerMerge
mod ComputedTerms
mod ShortUnits
mod ClosedTerms
mod KeptTerms
