pub mod Rooms
mod Terms
mod Scaling
mod NarrowTerms
