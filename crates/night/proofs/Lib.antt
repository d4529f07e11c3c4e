-- Laws of a night's reading. Assumes nothing.
pub mod Parts
