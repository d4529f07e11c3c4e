-- Whole numbers: the laws. Assumes nothing.
pub mod Ring
pub mod Sums
pub mod Binomial
pub mod Bound
pub mod Bits
pub mod Rounding
pub mod Halves
pub mod Fill
pub mod Determined
