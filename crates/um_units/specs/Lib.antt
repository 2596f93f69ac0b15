-- The definitions, in the order in which they are to be read.
pub mod Atoms
pub mod Terms
pub mod NormalForm
pub mod PowerMap
pub mod Range
pub mod Variables
pub mod Solutions
-- What mirrors the code.
pub mod PowerMapCode
pub mod Storage
pub mod Wide
