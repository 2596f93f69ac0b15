mod Values
mod Parts
mod LineWords
mod Calm
mod Examples
mod RunWords
mod Handed
