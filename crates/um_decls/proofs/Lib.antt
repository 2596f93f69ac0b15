pub mod DeclLists
pub mod DeclTaken
pub mod DeclTokens
pub mod DeclEnds
mod DeclStanding
