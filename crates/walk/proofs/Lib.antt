pub mod Steps
pub mod Headed
pub mod Survey
