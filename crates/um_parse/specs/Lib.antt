-- what a reader must trust: the grammar, heights and limits, where reading stops, what `parse` answers
pub mod DeclGrammar
pub mod ProgramHeights
pub mod ProgramLimits
pub mod ProgramStops
pub mod Parsed
pub mod Laws
-- what mirrors the code: the machine of programs, and what the readers hold
pub mod ProgramLeast
pub mod ReaderStates
pub mod Prefixes
pub mod ProgramNodes
pub mod Spaced
pub mod LimitsPassed
