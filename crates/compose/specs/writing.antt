-- What is written to the three output arrays. Assumes nothing.
pub mod Arrays
pub mod Placed
