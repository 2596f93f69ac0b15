-- What a reader must trust: the line at a place, and the two lines that show it.
pub mod SourceLine
pub mod Excerpt
