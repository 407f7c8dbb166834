pub mod Format
pub mod Headed
pub mod Cursor
pub mod Wanted
pub mod Survey
