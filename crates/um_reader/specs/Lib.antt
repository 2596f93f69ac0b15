-- To be trusted, in reading order: what tokens begin by a grammar, and where the reading of them ends.
pub mod Texts
pub mod Stops
pub mod ReadTo
-- What mirrors the code: machines, what one token gives, what the loop gives. `Readers` says by the grammar alone what
-- a reader's clauses come to.
pub mod Machine
pub mod Takes
pub mod Readers
pub mod RunTo
