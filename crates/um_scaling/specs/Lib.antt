-- What is trusted, in the order in which it is to be read: the factor of a unit, values at a type in other sizes, a
-- program and an input in other sizes, and values whose numbers are 0 if their unit is left open.
pub mod Rescaling
pub mod ScaledValues
pub mod RescaledProgram
pub mod RescaledInput
pub mod FreeNumbers
-- What these definitions come to: statements, each proved as the contract of a function of src/laws.rt.
pub mod Laws
