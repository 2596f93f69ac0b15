-- What a reader must trust, in reading order: what an answer is, and that each text, each call, and all words and bytes
-- have one.
pub mod Answered
pub mod TextLaws
pub mod CallLaws
pub mod Laws
-- What holds of all values that are printed with decimals, and of texts of certificates.
pub mod DisplayLaws
pub mod CertificateLaws
