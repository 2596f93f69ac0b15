-- To be trusted, in reading order: what a token is to the tokens beside it, where a space stands, what becomes of white
-- space and comments, the text laid out anew, what holds of it, and of the layout of a program.
pub mod Stands
pub mod Spaces
pub mod Gaps
pub mod Tidied
pub mod Laws
pub mod ProgramLaws
-- What mirrors the code.
pub mod Placed
