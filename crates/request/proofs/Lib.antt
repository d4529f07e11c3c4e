-- Laws of the request's definitions, for the proofs here and above. Assumes nothing.
pub mod Forms
pub mod Least
pub mod Bounds
pub mod Cascade
pub mod Accepted
