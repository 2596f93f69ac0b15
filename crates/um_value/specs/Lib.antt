-- To be trusted, in reading order: what a value text is, the grammar, its names and ranges, the place where it ends,
-- what `read_value` answers.
pub mod ValueSyntax
pub mod ValueGrammar
pub mod ValueNames
pub mod ValueStops
pub mod InputRead
pub mod Laws
-- What mirrors the code: the machine that reads token by token, and the reader by the machine's states.
pub mod KnownNames
pub mod RangeStops
pub mod ReadingParts
pub mod ValueMachine
pub mod ValueView
