-- Laws of patches: the numerators read at a place are the surface there, and the drawn patch is within half a unit of it.
-- Assumes nothing.
pub mod Indices
pub mod Evaluated
pub mod Half
pub mod Standing
pub mod Kept
pub mod Ways
pub mod Sizes
