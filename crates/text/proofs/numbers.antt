-- Laws of the numbers of a line. Assumes nothing.
pub mod Values
pub mod Zeros
