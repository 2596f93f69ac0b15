mod NameTokens
mod TokensLeft
mod DeclReading
mod DeclNames
mod ProgramNames
mod ExprReadable
mod LimitCounts
mod Readability
mod TextBytes
pub mod NamesWithin
pub mod TokenPlaces
mod NotePlaces
mod ExprPlaces
mod DeclPlaces
mod ResolvedPlaces
mod FaultPlaces
pub mod NodePlaces
pub mod BeginningTokens
pub mod Excluded
mod RefusedOnce
pub mod RefusalStatuses
pub mod CheckedTexts
pub mod StageLaws
pub mod TooLongTexts
pub mod ShapePlaces
pub mod RowPlaces
mod RefusalPlaces
mod WordPlaces
