-- What a reader must trust, in reading order: the answer to a call whose value is displayed, and what is asked of it so
-- that it is done; the text that tells where a call stops, the answer to `trace`, and what holds of it.
pub mod ShowAnswer
pub mod Passing
pub mod TraceText
pub mod TraceAnswer
pub mod Laws
-- What mirrors the code.
pub mod UnitsGiven
