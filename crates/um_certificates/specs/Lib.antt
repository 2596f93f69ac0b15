-- What a reader must trust: the lines of a certificate.
pub mod CertificateText
