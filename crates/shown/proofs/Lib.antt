-- Laws of a pair in words. Assumes nothing.
pub mod Telling
