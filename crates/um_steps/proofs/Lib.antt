pub mod Runs
mod Acted
mod Leaping
mod Home
mod Inside
