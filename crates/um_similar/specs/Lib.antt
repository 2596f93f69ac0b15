-- What a reader must trust, in reading order: one edit, the test of it, similar names.
pub mod Edits
pub mod OneEdit
pub mod SimilarNames
-- What the definitions come to: statements, proved as the contract of a function of src/laws.rt.
pub mod Laws
