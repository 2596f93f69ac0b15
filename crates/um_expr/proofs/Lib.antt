pub mod ExprEnds
pub mod ExprTokenKinds
mod ExprYields
mod ExprFirsts
pub mod ExprAtEnd
pub mod ExprComplete
mod ExprReads
mod ExprSuffixes
pub mod ExprPrefixes
pub mod ExprSound
pub mod ExprCompletions
pub mod ExprHeights
pub mod ExprLaws
mod ExprReading
mod ExprExamples
mod ExprInside
mod ExprEmptied
mod Standing
