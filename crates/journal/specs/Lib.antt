pub mod Journal
pub mod PowerCut
