-- What the composer leaves in its three output arrays. Assumes nothing.
pub mod Afterwards
pub mod Contract
pub mod writing
