pub mod Statuses
pub mod Serving
mod ShapedTexts
pub mod Complete
pub mod PrintedSchemes
pub mod CallsMeant
pub mod ManyCalls
pub mod TwinsMeant
mod SameLines
pub mod RescaledTypes
pub mod CallStages
pub mod ProgramStatuses
pub mod FirstUntyped
pub mod FittingCalls
pub mod FittingTwins
pub mod ServedHeadline
pub mod PrintedImages
pub mod SignaturesJudged
pub mod PrintedCertificates
mod PrintedRefusals
pub mod UniqueAnswers
