-- Examples by computation; then the theorem on power cuts, `power-cut`, and that an edit which is not cut is finished, `uncut`. The files above
-- PowerCut come to it in the order of these lines.
pub mod JournalExamples
pub mod Stores
pub mod Clearing
pub mod Recovery
pub mod Records
pub mod Words
pub mod PowerCut
