-- What a reader must trust: the notes of type texts, expressions, declarations and programs, what is read.
pub mod TypeNames
pub mod ExprNames
pub mod Resolution
pub mod Readable
pub mod RecordLaws
-- What mirrors the code: its tables, and parts as its functions speak of them.
pub mod Tables
pub mod Bodies
pub mod Joints
pub mod Parts
