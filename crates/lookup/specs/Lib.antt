-- The written rule of document 02, request 6, for the lookup: Lookup. What the functions of the search promise one another: Search.
pub mod Lookup
pub mod Search
