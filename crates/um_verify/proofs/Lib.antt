pub mod Fits
pub mod Joins
mod Arrived
pub mod Bodies
mod Operations
mod Sound
mod Stacked
mod Forward
mod Ends
mod Examples
mod ExampleHeads
