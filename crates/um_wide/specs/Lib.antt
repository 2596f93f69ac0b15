-- What a reader must trust: how much room powers take.
pub mod Room
-- What mirrors the code: powers of 64 bits.
pub mod Narrow
