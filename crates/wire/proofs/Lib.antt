-- Laws of the words of specs/Bytes.antt, for the proofs here and in the crates that read and write bytes.
pub mod Apart
pub mod Range
pub mod XorLaws
pub mod SumLaws
pub mod Splice
pub mod Field
pub mod Fold
pub mod Stretches
