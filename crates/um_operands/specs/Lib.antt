-- what a reader must trust: how tightly operators bind, heights
pub mod Ranks
pub mod ExprHeights
-- what mirrors the code: an expression that has begun, and the values that hold it
pub mod ExprBegun
pub mod ExprLeast
pub mod ExprKinds
pub mod ExprOperands
pub mod ExprFrames
pub mod ExprStack
pub mod ExprFocus
pub mod Standing
