-- What a reader must trust, in reading order: the call that is asked for, the answer to each order, when it is done.
pub mod AskedCall
pub mod OfCall
pub mod CallAnswer
pub mod CallsAnswer
pub mod BigText
pub mod BigAnswer
pub mod TwinAnswer
pub mod ExecAnswer
pub mod Passing
-- What the definitions come to: statements, each proved as the contract of a function of src/laws.rt.
pub mod EndLaws
pub mod Laws
-- What mirrors the code: what is known of calls, and of programs and arguments in other sizes.
pub mod Calling
pub mod Rescaling
