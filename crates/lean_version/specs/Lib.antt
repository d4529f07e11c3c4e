-- The version of the C functions. Assumes nothing.
pub mod Version
