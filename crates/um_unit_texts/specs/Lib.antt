-- To be trusted, in reading order: what a token is to unit texts, their grammar, where a unit text ends.
pub mod UnitTokens
pub mod UnitGrammar
pub mod UnitStops
-- What mirrors the code: the machine that reads token by token, and the reader by the machine's states. The clauses of
-- the reader rest on these; `Laws` of `um_types` says by the grammar alone what they come to.
pub mod UnitMachine
pub mod UnitLeast
pub mod UnitCount
pub mod UnitFrames
pub mod Standing
pub mod UnitView
