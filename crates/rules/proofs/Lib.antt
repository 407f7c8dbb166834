pub mod Bools
pub mod Examples
pub mod TidyExamples
pub mod CertificateExamples
pub mod BadEntryExamples
