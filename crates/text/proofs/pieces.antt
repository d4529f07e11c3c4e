-- Laws of lines out of parts. Assumes nothing.
pub mod Keeping
pub mod Determined
