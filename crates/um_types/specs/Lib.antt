-- To be trusted, in reading order: what parsing a unit text answers, the grammars, the limits, what the calls answer.
pub mod UnitParsed
pub mod TypeGrammar
pub mod TypeHeights
pub mod SignatureGrammar
pub mod SignatureParsed
pub mod Laws
-- What mirrors the code: the machines that read token by token, and the readers by the machines' states. The clauses of
-- the readers rest on these; `Laws` says by the grammars alone what they come to.
pub mod NoteMachine
pub mod NoteView
pub mod TypeMachine
pub mod Standing
pub mod TypeView
pub mod SignatureMachine
pub mod SignatureView
