mod Joined
mod ListTexts
mod Examples
pub mod PieceTokens
pub mod UnitsAgain
pub mod TypesAgain
pub mod ExprsAgain
pub mod DeclsAgain
pub mod Numbers
pub mod NextToken
pub mod Apart
pub mod Chain
pub mod SignRoles
pub mod Beginnings
pub mod Opens
pub mod PlacedTokens
pub mod ChainTexts
pub mod GoodTokens
pub mod UnitLinks
pub mod TypeLinks
pub mod ExprLinks
pub mod DeclLinks
pub mod ReadBack
mod RisingLists
pub mod UnitOrder
mod JoinedTexts
mod FactorTexts
mod ValueTexts
