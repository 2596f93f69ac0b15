-- what a reader must trust: heights
pub mod DeclHeights
-- what mirrors the code: the machine that reads token by token, and what the readers hold
pub mod DeclMachine
pub mod DeclLeast
pub mod DeclViews
pub mod DeclTakes
pub mod DeclTokens
pub mod DeclStanding
