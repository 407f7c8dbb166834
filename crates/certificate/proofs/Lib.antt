-- Laws of the certificate's place in a list.
pub mod Laws
