-- What places of two limbs gain, and sums that are under way. Assumes nothing.
pub mod Shifting
pub mod Gaining
pub mod Toward
