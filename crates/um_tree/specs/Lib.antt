-- The trees: what a type, an expression, a value, a text and a program are, and the tree that each value of the code
-- stands for.
pub mod TypeTree
pub mod ExprTree
pub mod ValueTree
pub mod ProgramTree
pub mod RawTree
-- What is trusted: when an expression is typed, what it means, when it has a shape, and which programs are formed.
pub mod Typing
pub mod Scheme
pub mod Meaning
pub mod Shapes
pub mod InputType
pub mod Heights
pub mod TreeHeights
pub mod Formed
-- What these definitions come to: statements, each proved as the contract of a function of src/laws.rt.
pub mod MeaningEquations
pub mod Laws
