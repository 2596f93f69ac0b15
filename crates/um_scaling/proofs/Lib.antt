pub mod Ratios
pub mod Factors
pub mod Numbers
pub mod Alike
pub mod Operations
pub mod LooseTypings
pub mod Scaling
pub mod ScalingLaw
pub mod Formed
pub mod Inputs
pub mod FreeZeroLaws
mod Examples
