-- The bounds of the three kinds of number: path number, travel and age. Assumes nothing.
pub mod Bounds
