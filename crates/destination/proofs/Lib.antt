-- Laws of a target.
pub mod Laws
