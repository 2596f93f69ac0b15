pub mod SameShape
pub mod AllFound
pub mod Stopping
pub mod Declarations
pub mod Formed
pub mod Sound
pub mod SoundProgram
pub mod LowShapes
pub mod NeverWrong
pub mod Unique
pub mod Complete
pub mod Examples
mod ExampleNodes
