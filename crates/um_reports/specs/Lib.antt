-- What a reader must trust, in reading order: statuses, lines, places, and the report line of each refusal.
pub mod Numbers
pub mod Steps
pub mod Places
pub mod Cursors
pub mod Refusals
pub mod CallRefusals
pub mod ScaleRefusals
pub mod ImageRefusals
-- What the definitions come to: statements, each proved as the contract of a function of src/laws.rt.
pub mod Laws
-- What mirrors the code.
pub mod Calling
