-- The daily sheet: of the whole trace, as a fold of its pairs, and worked. Assumes nothing.
pub mod Sheet
pub mod Fold
pub mod Examples
