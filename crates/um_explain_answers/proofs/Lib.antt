mod Stops
mod UniqueDetails
mod StopPlaces
mod Adding
mod UniqueRest
pub mod ExplainAnswers
pub mod ShortTexts
mod Refusals
mod Following
mod Examples
