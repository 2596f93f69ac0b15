-- What a reader must trust, in reading order: a trace, when a call stops with it, and what holds of all traces.
pub mod Traces
pub mod Stopping
pub mod Laws
-- What mirrors the code: the variables, what frames stand for, what is to be done next, and how much of it is left.
pub mod Variables
pub mod Through
pub mod Frames
pub mod Tasks
pub mod Work
pub mod Progress
pub mod Settling
pub mod Paths
