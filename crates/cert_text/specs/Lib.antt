pub mod CertificateText
pub mod CertificateLines
pub mod PrintedCertificates
pub mod Inner
