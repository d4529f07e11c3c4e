-- What the reading of an input promises. Assumes nothing.
pub mod Parts
