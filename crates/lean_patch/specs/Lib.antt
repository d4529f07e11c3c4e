-- The contract of `lean_patch`. Assumes nothing.
pub mod Crossing
