-- Laws of the lines of a night told pair by pair. Assumes nothing.
pub mod Telling
