-- Whole numbers as f64: their bits, the path number that an f64 is, and one exact step. Assumes nothing.
pub mod Float
pub mod Path
pub mod Step
