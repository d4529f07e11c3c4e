-- From the sums in their limbs to the two arrays. Assumes nothing.
pub mod Writing
pub mod patch_sums
