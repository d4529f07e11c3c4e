-- Laws of the answering of an input. Assumes nothing.
pub mod Telling
