-- Shapes as they are kept, and the stacks of them by their numbers. These mirror the code.
pub mod FlatShapes
pub mod Stacks
