-- The table of a patch under way, and from the table to the numerators. Assumes nothing.
pub mod Filling
pub mod Summing
