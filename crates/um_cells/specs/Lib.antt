-- What is trusted: on which values a function may be called, what a runner answers, which value a word denotes, and
-- what the operations on words give.
pub mod Arguments
pub mod Running
pub mod Denotes
pub mod Stores
pub mod Operations
-- What the definitions come to: statements, each proved as the contract of a function of src/laws.rt.
pub mod Laws
-- What mirrors the code: which cells are well formed, so that every word that is looked at denotes a value, and what
-- is read of a word and of a cell.
pub mod Formed
pub mod Holding
pub mod Reading
