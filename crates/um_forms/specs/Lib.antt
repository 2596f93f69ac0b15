-- what a reader must trust: what a token is to expressions
pub mod ExprTokens
-- what mirrors the code: what a token makes of an expression that has begun, and what a step of the code gives
pub mod ExprForms
pub mod ExprSteps
