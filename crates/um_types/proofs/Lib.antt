pub mod NoteComplete
pub mod NoteLaws
mod Standing
pub mod TypeComplete
pub mod TypeSound
pub mod TypeLaws
pub mod SignatureLaws
pub mod ReaderLaws
mod Inside
