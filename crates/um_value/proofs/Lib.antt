pub mod ValueFrom
pub mod ValueGoes
pub mod ValueBack
pub mod ValueHeights
pub mod ValueTexts
pub mod ValueEnds
pub mod ValueLaws
pub mod UniqueInputs
mod ValueLoop
mod ValueMoves
mod ValueParts
mod RawLoops
mod InputLoops
pub mod ValueShapes
pub mod ValueFormed
mod Examples
