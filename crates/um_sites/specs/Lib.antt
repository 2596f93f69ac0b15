-- What a reader must trust, in reading order: names and the spaces of names, what is told at each place where a name
-- stands, and the text of it.
pub mod Spaces
pub mod Sites
pub mod NameDetails
