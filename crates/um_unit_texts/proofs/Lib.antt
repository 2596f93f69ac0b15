pub mod UnitComplete
pub mod UnitSound
pub mod UnitLaws
pub mod UnitHeights
mod UnitOperands
mod UnitEnds
mod Standing
mod UnitCounts
pub mod UnitCut
pub mod UnitNested
pub mod ForeignTokens
pub mod TokenPlaces
