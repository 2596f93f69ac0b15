pub mod Spaces
pub mod Words
pub mod WholeUnits
pub mod SizedParts
pub mod AddedUnits
pub mod UniqueParts
pub mod FirstUnits
pub mod ReadDecimals
mod Examples
