-- What is trusted: in which state of the machine's definition a run is.
pub mod Going
-- What mirrors the code: which frames a run keeps, what a step of it comes to, and what several come to at once.
pub mod Frames
pub mod Stepping
pub mod Several
pub mod Inside
