-- What is trusted: which values stand on a stack.
pub mod Carrying
-- What mirrors the code: what an operation gives, and what it leaves on the stack.
pub mod Applying
pub mod Placing
