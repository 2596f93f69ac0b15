-- What a reader must trust, in reading order: a call by its words and what it is answered; what the answers come to;
-- the same of calls of images.
pub mod Calls
pub mod Laws
pub mod ImageCalls
pub mod ImageLaws
-- What mirrors the code.
pub mod Reading
pub mod Callable
