-- Laws of words, for the proofs here and above. Assumes nothing.
pub mod Runs
pub mod Cases
pub mod Marks
