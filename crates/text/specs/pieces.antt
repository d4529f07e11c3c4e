-- Lines out of the parts of an input, as definitions that compute on lists of bytes. Assumes nothing.
pub mod Kept
