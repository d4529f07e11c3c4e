-- Whole numbers: what sums, binomials and rounding mean. Assumes nothing.
pub mod Sum
pub mod Choose
pub mod Round
