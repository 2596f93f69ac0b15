-- What a reader must trust, in reading order: that a place is that of a token, what holds of each program that is read,
-- the stages of a text, which texts each refuses and how, what a command says of them, and where a text is refused.
pub mod Places
pub mod PlaceLaws
pub mod Stages
pub mod Refused
pub mod Staged
pub mod Laws
-- What mirrors the code: its values, and a text that is being read.
pub mod Parts
pub mod Reading
