-- What is trusted: the sizes of base units as a rescaling, the factor of a unit by its partial products, what becomes
-- of literals, of inputs and of a text, and when two outcomes are twins.
pub mod Sizes
pub mod RescaledLiterals
pub mod RescaledInputs
pub mod RescaledText
pub mod TwinRuns
pub mod Stops
-- What these definitions come to: statements, each proved as the contract of a function of src/laws.rt.
pub mod Laws
-- What mirrors the code.
pub mod SizesCode
pub mod PassedNumbers
pub mod Spelling
