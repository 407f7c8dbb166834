-- Laws of the grammar, for the proofs of this crate's functions and of the lookup's: what each part says of its places, and what one step
-- of a function adds.
pub mod Deciding
pub mod CutLaws
pub mod TokenLaws
pub mod PartLaws
pub mod NodeLaws
pub mod TreeLaws
