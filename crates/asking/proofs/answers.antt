-- Laws for the proofs of the answers. Assumes nothing.
pub mod Parts
pub mod Promises
