-- What a reader must trust, in reading order: rows, and those of two types that must be equal.
pub mod Steps
pub mod Against
-- What mirrors the code: rows that are pushed for steps, and why there are none.
pub mod Pushed
pub mod SlotStops
