-- The written rules of document 01, one file for each part of it, in its order, and behind them one for each request of document 02
-- that adds a call; request 3's tidy, which is an edit, stands before Edit, and what holds of a tidied list, and of the place in request 8's
-- refusal, behind the others. Read them in the order of these lines.
-- The words for bytes (field, le_bytes, xor, splice, sum) are those of wire's specs/Bytes.antt.
pub mod Area
pub mod Header
pub mod Entries
pub mod Checksum
pub mod Edition
pub mod Refusals
pub mod Tags
pub mod Check
pub mod Find
pub mod Outcome
pub mod Create
pub mod Add
pub mod AddAligned
pub mod Void
pub mod Relocate
pub mod Tidy
pub mod Edit
pub mod Demand3
pub mod Edition09
pub mod Certificate
pub mod TidyTwice
pub mod BadEntry
