mod ExprLists
mod ExprStackLaws
mod ExprLow
pub mod FramesLeft
