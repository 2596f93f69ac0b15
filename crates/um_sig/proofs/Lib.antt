pub mod FormLaws
pub mod TypesRead
pub mod RowLaws
pub mod MatchedTypes
pub mod SolvedRows
pub mod FixedSignatures
pub mod InstanceLaws
pub mod TypingLaws
pub mod UniqueAnswers
pub mod MatchingSteps
mod ReadingEnds
pub mod SignaturesIn
mod FewVariables
pub mod UniqueReadings
pub mod HeadNames
pub mod NameChecks
pub mod SignatureHeads
pub mod NeverTwice
mod Examples
