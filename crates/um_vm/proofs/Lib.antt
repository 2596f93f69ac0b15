pub mod Calls
mod Shown
mod Counted
mod Examples
