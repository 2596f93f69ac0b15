-- What a reader must trust: the text and the lines of calls in one source, and the words of a line.
pub mod Sources
-- What they come to.
pub mod Laws
