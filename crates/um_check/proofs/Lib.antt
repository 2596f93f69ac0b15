pub mod Combinations
pub mod RigidRows
pub mod Refutations
pub mod Returns
mod RigidPowers
mod ApartTests
mod FormTests
mod YesTests
mod Examples
pub mod Extensions
pub mod InverseSteps
pub mod RefutedSteps
pub mod CertificatesExist
pub mod Exponents
pub mod RigidRefuted
