pub mod Steps
pub mod Codes
pub mod Survives
pub mod Begin
