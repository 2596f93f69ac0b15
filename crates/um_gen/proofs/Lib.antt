pub mod Stands
pub mod Simulation
pub mod LaidOut
pub mod EndsAsMeant
pub mod Sizes
pub mod Forwards
mod Emitted
mod EachEmitted
mod EachFunction
mod Places
mod Examples
