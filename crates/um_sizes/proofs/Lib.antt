pub mod Cuts
pub mod OnceNames
pub mod Adds
pub mod DigitTexts
pub mod NameTests
pub mod BaseNumbers
pub mod BaseScales
pub mod UniqueSizes
mod Examples
