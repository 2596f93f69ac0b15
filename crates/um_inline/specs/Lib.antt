-- How bytes are stored. It mirrors the code; no public clause cites it.
pub mod Storage
