-- Laws of a patch line. Assumes nothing.
pub mod Behind
pub mod Examples
