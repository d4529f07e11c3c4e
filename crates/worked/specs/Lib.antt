-- Worked parts of a curve, and the corner case of the patches. Assumes nothing.
pub mod Parts
pub mod Corner
