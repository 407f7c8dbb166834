pub mod Laws
pub mod SomeWord
pub mod Kept
