-- What is trusted: the words and operands of instructions, what is taken from a stack, and what the machine does.
pub mod Table
pub mod Stack
pub mod Machine
-- Code whose runs end, since its jumps go forward.
pub mod Jumps
