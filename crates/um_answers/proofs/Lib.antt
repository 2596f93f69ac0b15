mod AnnotLists
mod SolvedHere
mod CodeEntries
mod SchemesGiven
mod SchemesPrinted
pub mod ShortNames
pub mod ConformsDone
pub mod ConformAnswers
pub mod ImageAnswers
pub mod RescaleAnswers
mod LiteralPlaces
pub mod TextAnswers
pub mod AnnotAnswers
