pub mod Traced
pub mod SomeTrace
mod Bodies
mod OneTrace
mod Segments
mod Completing
mod Outcomes
mod Stopped
mod Lookup
mod Starting
mod Resuming
mod Running
mod Ending
mod ReadOff
