-- Laws of the reading of an input. Assumes nothing.
pub mod Taking
