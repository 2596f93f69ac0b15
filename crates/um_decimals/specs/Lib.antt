-- What a reader must trust, in reading order: the decimal number of a fraction, and what holds of all of them.
pub mod Decimals
pub mod Laws
