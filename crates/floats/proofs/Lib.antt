-- The laws of whole numbers as f64: sums and products, the step, the path number that an f64 is, bits. Assumes nothing.
pub mod Sums
pub mod Steps
pub mod Near
pub mod Numbers
pub mod Bits
