pub mod Nearer
pub mod Runs
pub mod Ends
pub mod Tests
pub mod Power
pub mod Decision
