-- Laws of a conversion's bytes.
pub mod Laws
