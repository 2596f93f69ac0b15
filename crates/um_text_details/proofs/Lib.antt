mod WordLists
mod Told
mod Tries
pub mod WordLaws
mod FirstCharacter
pub mod RisingTokens
mod RefusedTokens
mod LetsAfter
mod TokenLists
mod Examples
