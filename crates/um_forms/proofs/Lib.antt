mod ExprRefusals
mod Standing
