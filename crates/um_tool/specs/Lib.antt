-- What a reader must trust, in reading order: the words of an order, the answer, when it is done, what a run writes.
pub mod Asked
pub mod Answer
pub mod Passing
pub mod Served
-- What the definitions come to: statements, each proved as the contract of a function of src/laws.rt.
pub mod Laws
pub mod CallLaws
pub mod ScaleLaws
pub mod ImageLaws
pub mod Verdicts
pub mod CertificateLaws
pub mod Headline
