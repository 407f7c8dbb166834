-- The written rules of document 02, request 6: the flattened device tree, as a grammar over the bytes of the data and places in them. Header,
-- Structure and Tree say what stands where, and nothing of how it is read; of the code they take the header's record alone. Where an index
-- of a rule is fixed, as a nesting, an equation says so, since the checker matches on variables. Read them in the order of these lines.
-- Decided says what it means that a function decides them.
pub mod Header
pub mod Structure
pub mod Tree
pub mod Decided
