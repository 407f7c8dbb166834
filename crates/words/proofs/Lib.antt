pub mod Laws
pub mod Window
