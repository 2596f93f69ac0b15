-- What a reader must trust, in reading order: the units that are left open, what a call goes to.
pub mod Holes
pub mod Callees
