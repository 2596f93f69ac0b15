-- what a reader must trust: the grammar
pub mod ExprGrammar
-- what mirrors the code: the machine that reads token by token, and what the reader holds
pub mod ExprMachine
pub mod ExprStates
pub mod Standing
-- what is promised of the reader by the grammar alone
pub mod Laws
